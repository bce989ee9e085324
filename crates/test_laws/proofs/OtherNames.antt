-- Keywords of the standard other than `type` have other names.
use Rattle.std.specs.Prelude.{bytes_eq, codes, false, refl, ◌≡◌}
use Rattle.schema_drafts.specs.KeywordViews.{builtin_text}
use Rattle.schema_drafts.specs.declared.keywords.builtin.BuiltinKeyword.{BuiltinKeyword}
use Rattle.schema_drafts.specs.declared.keywords.builtin.BuiltinKeyword.TheVariants as builtin

pub not_type : (k : BuiltinKeyword) → (k ≡ builtin.TypeKeyword → ⊥) → bytes_eq (builtin_text k) (codes "type") ≡ false
not_type builtin.TypeKeyword other = absurd (other refl)
not_type k other = refl
