-- Keywords of the standard other than the three that the table fuses have other names.
use Rattle.std.specs.Prelude.{bytes_eq, codes, false, refl, ◌≡◌}
use Rattle.schema_drafts.specs.KeywordViews.{builtin_text}
use Rattle.schema_drafts.specs.declared.keywords.builtin.BuiltinKeyword.{BuiltinKeyword}
use Rattle.schema_drafts.specs.declared.keywords.builtin.BuiltinKeyword.TheVariants as builtin

pub not_type : (k : BuiltinKeyword) → (k ≡ builtin.TypeKeyword → ⊥) → bytes_eq (builtin_text k) (codes "type") ≡ false
not_type builtin.TypeKeyword other = absurd (other refl)
not_type k other = refl

pub not_least : (k : BuiltinKeyword) → (k ≡ builtin.MinItems → ⊥) → bytes_eq (builtin_text k) (codes "minItems") ≡ false
not_least builtin.MinItems other = absurd (other refl)
not_least k other = refl

pub not_items : (k : BuiltinKeyword) → (k ≡ builtin.Items → ⊥) → bytes_eq (builtin_text k) (codes "items") ≡ false
not_items builtin.Items other = absurd (other refl)
not_items k other = refl
