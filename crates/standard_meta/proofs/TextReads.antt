-- Texts that are read one after the other.
use Rattle.std.proofs.Common.{List, Some, [], ap, drop, get_or, length, map, refl, sym, ℕ, ◌∙◌, ◌++◌, ◌+◌, ◌<◌, ◌≤◌, ◌∷◌, ◌≡◌}
use Rattle.std.proofs.lemmas.List.{append-nil, append_assoc, drop_all, drop_more, map-append}
use Rattle.serde_json.specs.Read.{read}
use Rattle.serde_json.specs.View.{view}
use Rattle.serde_json.specs.declared.value.Value.{Value}
use Rattle.theory_definitions.specs.Drafts.{Draft}
use Rattle.schema_drafts.specs.KeywordViews.{draft_of}
use Rattle.schema_drafts.specs.declared.keywords.drafts.Draft as code
use Rattle.meta_schemas.specs.MetaTexts.{Written, texts_of}
use Rattle.standard_meta.specs.MetaDocuments.{Reading, read_of, reading_of, texts_of_each}

-- a text under its URI, and what it reads as
pub text_reads : (t : Written) (v : Value) → read t.text ≡ Some (view v) → read_of (record { uri = t.uri; value = v }) ≡ reading_of t
unfolding reading_of
text_reads t v is = ap (λ x. record { uri = t.uri; value = x }) (sym is)

-- no drafts have no texts
pub texts_of_none : map reading_of (texts_of_each []) ≡ []
unfolding texts_of_each
texts_of_none = refl

-- the texts of one more draft were read
pub next_draft : (all docs more : List Reading) (d : Draft) (left drafts : List Draft) → more ≡ docs ++ map reading_of (texts_of d) → drafts ≡ d ∷ left
    → all ≡ docs ++ map reading_of (texts_of_each drafts) → all ≡ more ++ map reading_of (texts_of_each left)
unfolding texts_of_each
next_draft all docs more d left drafts added first before = before
    ∙ ap (λ ds. docs ++ map reading_of (texts_of_each ds)) first
    ∙ ap (λ rs. docs ++ rs) (map-append reading_of (texts_of d) (texts_of_each left))
    ∙ sym (append_assoc docs (map reading_of (texts_of d)) (map reading_of (texts_of_each left)))
    ∙ ap (λ rs. rs ++ map reading_of (texts_of_each left)) (sym added)

-- the drafts from a number on
pub drafts_from : (ds : List code.Draft) (i : ℕ) (d : code.Draft) → i < length ds → map draft_of (drop i ds) ≡ draft_of (get_or ds i d) ∷ map draft_of (drop (i + 1) ds)
drafts_from ds i d inside = ap (map draft_of) (drop_more ds i d inside)

-- no draft is left, so the texts of all were read
pub all_read : (all docs : List Reading) (ds : List code.Draft) (i : ℕ) → length ds ≤ i
    → all ≡ docs ++ map reading_of (texts_of_each (map draft_of (drop i ds))) → docs ≡ all
all_read all docs ds i over before = sym (before
    ∙ ap (λ xs. docs ++ map reading_of (texts_of_each (map draft_of xs))) (drop_all i ds over)
    ∙ ap (λ xs. docs ++ xs) texts_of_none
    ∙ append-nil docs)
