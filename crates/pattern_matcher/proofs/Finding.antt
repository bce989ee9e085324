-- A pattern without back references matches if the relation between positions leads somewhere.
use Rattle.std.proofs.Common.{◌≡◌, ℕ, Bool, true, false, Option, Some, None, ap, refl, subst, sym, inl, inr, ◌∙◌, true≢false, arith}
use Rattle.std.specs.Prelude.{Err, List, Ok, Result, [], chars, is_some, map, option_map, ◌&&◌, ◌∷◌}
use Rattle.std.proofs.lemmas.Bool.{cases_Bool}
use Rattle.std.proofs.lemmas.Bool.Decides.{nat_tests}
use Rattle.pattern_trees.specs.Matching.{Chars, found}
use Rattle.pattern_sets.specs.Alike.{AreAlike}
use Rattle.pattern_trees.specs.Nodes.{Node, Nothing, OneOf, At, Reference, Group, Around, Times, Pair, Choice, node_of}
use Rattle.pattern_trees.specs.declared.tree.Tree.{Tree}
use Rattle.pattern_trees.specs.Patterns.{IsFound, IsWithin}
use Rattle.pattern_trees.specs.Trees.{IsPlain, pattern_of}
use Rattle.pattern_trees.proofs.Matched.{found-matches}
use Rattle.std.specs.Result.{result_err, result_ok}
use Rattle.pattern_characters.specs.Characters.{seen}
use Rattle.pattern_reader.specs.Errors.{error_text}
use Rattle.pattern_reader.specs.Reading.{Reading, located, read}
use Rattle.pattern_reader.specs.declared.errors.ReadError.{ReadError}
use Rattle.theory_definitions.specs.Instance.{Text}
use Rattle.pattern_matcher.specs.PatternMatching.{fault_text, is_in_order, is_plain, reading_of}
use Rattle.pattern_matcher.specs.ReadViews.{IsPrepared, reading_seen}
use Rattle.pattern_reader.specs.declared.reader.Pattern.{Pattern}

both : (a b : Bool) → (a && b) ≡ true → (a ≡ true) × (b ≡ true)
both true b e = (refl, e)
both false b e = absurd (true≢false (sym e))

within : (least : ℕ) (most : Option ℕ) → is_in_order least most ≡ true → IsWithin least most
within least None e = tt
within least (Some m) e = grind (arith, nat_tests)

-- what the code finds plain is plain
plain : (a : Node) → is_plain a ≡ true → IsPlain a
plain Nothing e = tt
plain (OneOf spans) e = tt
plain (At edge) e = tt
plain (Reference k) e = absurd (true≢false (sym e))
plain (Group k a) e = plain a e
plain (Around look a) e = plain a e
plain (Times t a) e = let u = both (is_in_order t.min t.max) (is_plain a) e in (within t.min t.max u.0, plain a u.1)
plain (Pair a b) e = let u = both (is_plain a) (is_plain b) e in (plain a u.0, plain b u.1)
plain (Choice a b) e = let u = both (is_plain a) (is_plain b) e in (plain a u.0, plain b u.1)

-- a test of the relation is the definition's answer
pub plain-found : (a : Node) → is_plain a ≡ true → (groups : ℕ) (s : Chars) (b : Bool) → (b ≡ true → IsFound (pattern_of a) s)
    → (b ≡ false → ¬ (IsFound (pattern_of a) s)) → b ≡ found a groups s
plain-found a p groups s true is isnt = sym ((found-matches a (plain a p) groups s).1 (is refl))
plain-found a p groups s false is isnt = elim (cases_Bool (found a groups s)) [
  | inl there ↦ absurd (isnt refl ((found-matches a (plain a p) groups s).0 there))
  | inr none ↦ sym none
]

-- a tree that matches as what was read does, where it is a pattern
pub prepared_some : (o : Option Pattern) (p : Pattern) (t : Tree) → o ≡ Some p → IsPrepared o t → AreAlike (pattern_of (node_of p.tree)) (pattern_of (node_of t))
prepared_some o p t e h = subst (λ (q : Option Pattern). IsPrepared q t) e h

-- the code has read a pattern exactly if there is one
pub some_alike : (o : Option Pattern) (r : Option Reading) → option_map reading_seen o ≡ r → is_some o ≡ is_some r
some_alike None r e = ap is_some e
some_alike (Some p) r e = ap is_some e

-- what was read, wherever a fault was
as_seen : (r : Result Pattern ReadError) → option_map reading_seen (result_ok r) ≡ result_ok (seen reading_seen r)
as_seen (Ok p) = refl
as_seen (Err e) = refl

same_ok : {E : Type 0} (f : Result Reading E → Result Reading ReadError) → ((x : Reading) → result_ok (f (Ok x)) ≡ Some x)
    → ((e : E) → result_ok (f (Err e)) ≡ None) → (r : Result Reading E) → result_ok (f r) ≡ result_ok r
same_ok f good bad (Ok x) = good x
same_ok f good bad (Err e) = bad e

-- what the code has read of a text's characters is what the text means
pub read_alike : (p : Text) (s : Chars) (r : Result Pattern ReadError) → s ≡ chars p → seen reading_seen r ≡ located s (read s)
    → option_map reading_seen (result_ok r) ≡ reading_of p
unfolding reading_of
read_alike p s r same e = as_seen r ∙ (ap result_ok e ∙ (same_ok (located s) (λ x. refl) (λ e. refl) (read s) ∙ ap (λ c. result_ok (read c)) same))

err_seen : (r : Result Pattern ReadError) → result_err r ≡ result_err (seen reading_seen r)
err_seen (Ok p) = refl
err_seen (Err e) = refl

-- what the code finds wrong with a text's characters is what is wrong with the text
pub fault_alike : (p : Text) (s : Chars) (r : Result Pattern ReadError) → s ≡ chars p → seen reading_seen r ≡ located s (read s)
    → option_map error_text (result_err r) ≡ fault_text p
unfolding fault_text
fault_alike p s r same e =
    ap (option_map error_text) (err_seen r ∙ ap result_err e) ∙ ap (λ c. option_map error_text (result_err (located c (read c)))) same

-- what each turn of a loop over characters yields is the character
pub same_map : (xs : List ℕ) → map (λ c. c) xs ≡ xs
same_map [] = refl
same_map (x ∷ xs) = ap (λ ys. x ∷ ys) (same_map xs)
