-- A search through the keywords by their names finds what the table has.
use Rattle.std.proofs.Common.{add-one, get_or, subst}
use Rattle.std.proofs.Math.Seq.{drop-cons}
use Rattle.std.specs.Prelude.{Bool, List, None, [], bytes_eq, drop, false, find, length, map, refl, suc, true, ℕ, ◌+◌, ◌<◌, ◌||◌, ◌∷◌, ◌≡◌}
use Rattle.schema_drafts.specs.declared.keywords.builtin.BuiltinKeyword.{BuiltinKeyword}
use Rattle.schema_drafts.specs.declared.keywords.builtin.TheConstants.{BUILTIN_KEYWORDS}
use Rattle.theory_definitions.specs.Instance.{Text}
use Rattle.schema_drafts.specs.KeywordTable.{Row, keyword_table, row_named}
use Rattle.schema_drafts.specs.KeywordViews.{builtin_text}

-- one of these has the name
unfoldable pub is_among : Text → List BuiltinKeyword → Bool
is_among name [] = false
is_among name (k ∷ ks) = bytes_eq (builtin_text k) name || is_among name ks

pub is_among-cons : (name : Text) (k : BuiltinKeyword) (ks : List BuiltinKeyword) → bytes_eq (builtin_text k) name ≡ false → is_among name (k ∷ ks) ≡ is_among name ks
unfolding is_among
is_among-cons name k ks h = rw h refl

pub is_among-none : (name : Text) → is_among name [] ≡ false
unfolding is_among
is_among-none name = refl

both_false : (a b : Bool) → (a || b) ≡ false → (a ≡ false) × (b ≡ false)
both_false true b h = absurd (let f : ⊥ = cc in f)
both_false false b h = (refl, h)

-- if none of the keywords has the name, then no row of the same names has it
none_found : (name : Text) (ks : List BuiltinKeyword) (rows : List Row) → map builtin_text ks ≡ map (λ r. r.name) rows → is_among name ks ≡ false → find (λ r. bytes_eq r.name name) rows ≡ None
unfolding is_among
none_found name [] [] e h = refl
none_found name [] (r ∷ rows) e h = absurd (let f : ⊥ = cc in f)
none_found name (k ∷ ks) [] e h = absurd (let f : ⊥ = cc in f)
none_found name (k ∷ ks) (r ∷ rows) e h =
    let each = both_false (bytes_eq (builtin_text k) name) (is_among name ks) h in
    let first : builtin_text k ≡ r.name = cc in
    let others : map builtin_text ks ≡ map (λ (r' : Row). r'.name) rows = cc in
    let differs : bytes_eq r.name name ≡ false = subst (λ (t : Text). bytes_eq t name ≡ false) first each.0 in
    rw differs (none_found name ks rows others each.1)

-- dropping a keyword that has another name changes nothing
pub is_among-drop : (name : Text) (ks : List BuiltinKeyword) (i : ℕ) (d : BuiltinKeyword) → i < length ks → bytes_eq (builtin_text (get_or ks i d)) name ≡ false → is_among name (drop i ks) ≡ is_among name (drop (i + 1) ks)
is_among-drop name ks i d h differs = rw (drop-cons ks i d h, add-one) (is_among-cons name (get_or ks i d) (drop (suc i) ks) differs)

pub none_named : (name : Text) → is_among name BUILTIN_KEYWORDS ≡ false → row_named name ≡ None
none_named name h = none_found name BUILTIN_KEYWORDS keyword_table refl h
