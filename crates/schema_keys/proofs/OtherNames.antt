-- Keywords of the standard other than a reference have other names.
use Rattle.std.specs.Prelude.{bytes_eq, codes, false, refl, ◌≡◌}
use Rattle.schema_drafts.specs.KeywordViews.{builtin_text}
use Rattle.schema_drafts.specs.declared.keywords.builtin.BuiltinKeyword.{BuiltinKeyword}
use Rattle.schema_drafts.specs.declared.keywords.builtin.BuiltinKeyword.TheVariants as builtin

pub not_ref : (k : BuiltinKeyword) → (k ≡ builtin.Ref → ⊥) → bytes_eq (builtin_text k) (codes "$ref") ≡ false
not_ref builtin.Ref other = absurd (other refl)
not_ref k other = refl

pub not_dynamic_ref : (k : BuiltinKeyword) → (k ≡ builtin.DynamicRef → ⊥) → bytes_eq (builtin_text k) (codes "$dynamicRef") ≡ false
not_dynamic_ref builtin.DynamicRef other = absurd (other refl)
not_dynamic_ref k other = refl

pub not_recursive_ref : (k : BuiltinKeyword) → (k ≡ builtin.RecursiveRef → ⊥) → bytes_eq (builtin_text k) (codes "$recursiveRef") ≡ false
not_recursive_ref builtin.RecursiveRef other = absurd (other refl)
not_recursive_ref k other = refl
