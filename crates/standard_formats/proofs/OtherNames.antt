-- Keywords of the standard other than `format` have other names.
use Rattle.std.specs.Prelude.{bytes_eq, codes, false, refl, ◌≡◌}
use Rattle.schema_drafts.specs.KeywordViews.{builtin_text}
use Rattle.schema_drafts.specs.declared.keywords.builtin.BuiltinKeyword.{BuiltinKeyword}
use Rattle.schema_drafts.specs.declared.keywords.builtin.BuiltinKeyword.TheVariants as builtin

pub not_format : (k : BuiltinKeyword) → (k ≡ builtin.Format → ⊥) → bytes_eq (builtin_text k) (codes "format") ≡ false
not_format builtin.Format other = absurd (other refl)
not_format k other = refl
