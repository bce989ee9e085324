-- The set of bytes that are percent-encoded in a URI fragment: all but those that it can hold.
use Rattle.std.proofs.Common.{◌≡◌, ℕ, suc, arith, ◌<◌, Bool, true, false, cond, not, List, [], ◌∷◌, ◌++◌, refl, ◌∙◌, ap, ap₂}
use Rattle.std.specs.Prelude.{All}
use Rattle.std.proofs.lemmas.Bool.{agree_below, agree_below_at}
use Rattle.percent_encoding.specs.AsciiSet.{should_percent_encode}
use Rattle.percent_encoding.specs.Percent.{encode_byte, percent_encode, percent_encode_byte}
use Rattle.theory_definitions.specs.Plan.{encoded, stands_plainly}
use Rattle.schema_node_table.specs.declared.node.absolute.TheConstants.{ESCAPED}

escapes : agree_below (should_percent_encode ESCAPED) (λ x. not (stands_plainly x)) 256 ≡ true
unfolding should_percent_encode
escapes = refl

swapped : {A : Type 0} (b : Bool) (x y : A) → cond (not b) x y ≡ cond b y x
swapped true x y = refl
swapped false x y = refl

byte_is : (b : ℕ) → b < 256 → encode_byte ESCAPED b ≡ cond (stands_plainly b) (b ∷ []) (percent_encode_byte b)
byte_is b lt = ap (λ e. cond e (percent_encode_byte b) (b ∷ [])) (agree_below_at (should_percent_encode ESCAPED) (λ x. not (stands_plainly x)) 256 b escapes lt)
    ∙ swapped (stands_plainly b) (percent_encode_byte b) (b ∷ [])

pub encoded_is : (bs : List ℕ) → All (λ b. b < 256) bs → percent_encode ESCAPED bs ≡ encoded bs
unfolding percent_encode
encoded_is [] h = refl
encoded_is (b ∷ bs) h = ap₂ (λ xs ys. xs ++ ys) (byte_is b (h 0 0 (omega arith))) (encoded_is bs (λ k d lt. h (suc k) d (omega arith)))
