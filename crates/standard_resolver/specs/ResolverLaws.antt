-- The resolver keeps the laws of `Resolver`.
use Rattle.std.proofs.Common.{ℕ, ◌≡◌, ◌&&◌, ◌∙◌, ◌++◌, ◌∷◌, [], List, Bool, true, false, Option, Some, None, option_and_then, refl, ap}
use Rattle.std.proofs.Common.{subst}
use Rattle.std.specs.Str.{bytes_eq}
use Rattle.std.proofs.lemmas.Slice.Eq.{bytes_eq-Decides}
use Rattle.std.specs.Prelude.{◌↔◌, slice_get}
use Rattle.std.specs.Rc.{rc_str_bytes}
use Rattle.serde_json.specs.Data.{Data}
use Rattle.theory_definitions.specs.Instance.{Place, Subject, a_name, a_value, after_step, subject_at, subject_from}
use Rattle.schema_traits.specs.ResolverViews.{IsInside}
use Rattle.standard_subschemas.specs.SubschemaRules.{data_of}
use Rattle.theory_definitions.specs.Drafts.{SchemaPlace, at_path}
use Rattle.standard_resolver.specs.ResolverDocuments.{HeldDocuments, Document, documents_of, value_of}
use Rattle.standard_resolver.specs.DocumentStates.{Point, same_point}
use Rattle.standard_resolver.specs.declared.resolver.DocumentState.{DocumentState}
use Rattle.standard_resolver.specs.ResolverAnswers.{document_resolving}
use Rattle.standard_resolver.specs.DocumentViews.{point_of}

data-is : (o : Option Subject) (d : Data) → data_of o ≡ Some d → o ≡ Some (a_value d)
data-is None d h = cc
data-is (Some (a_value e)) d h = let same : e ≡ d = cc in ap (λ x. Some (a_value x)) same
data-is (Some (a_name k)) d h = cc

-- the value at the end of two paths is the value at the end of the second, inside the value at the
-- end of the first
inside_here : (q : Place) (x : Subject) (inner : Data) → data_of (subject_from q x) ≡ Some inner
    → (outer : Data) × (data_of (Some x) ≡ Some outer) × (subject_from q (a_value outer) ≡ Some (a_value inner))
inside_here q (a_value d) inner h = (d, refl, data-is (subject_from q (a_value d)) inner h)
inside_here [] (a_name k) inner h = absurd (let no_data : ⊥ = cc in no_data)
inside_here (s ∷ q) (a_name k) inner h = absurd (let no_data : ⊥ = cc in no_data)

inside_from : (p q : Place) (x : Subject) (inner : Data) → data_of (subject_from (p ++ q) x) ≡ Some inner
    → (outer : Data) × (data_of (subject_from p x) ≡ Some outer) × (subject_from q (a_value outer) ≡ Some (a_value inner))
inside_from [] q x inner h = inside_here q x inner h
inside_from (s ∷ p) q x inner h = elim (after_step s x) as (λ o. data_of (option_and_then (subject_from (p ++ q)) o) ≡ Some inner
    → (outer : Data) × (data_of (option_and_then (subject_from p) o) ≡ Some outer)
    × (subject_from q (a_value outer) ≡ Some (a_value inner))) [
      | None ↦ λ e. absurd (let no_data : ⊥ = cc in no_data)
      | Some y ↦ λ e. inside_from p q y inner e
    ] h

inside_of : (o : Option Document) (p : SchemaPlace) (q : Place) (inner : Data) → value_of o (at_path p q) ≡ Some inner
    → (outer : Data) × (value_of o p ≡ Some outer) × (subject_at outer q ≡ Some (a_value inner))
inside_of None p q inner h = absurd (let no_data : ⊥ = cc in no_data)
inside_of (Some d) p q inner h = inside_from p.path q (a_value d.value) inner h

pub values_stand_inside : (r : HeldDocuments) → IsInside (document_resolving r)
values_stand_inside r = λ p path inner h. inside_of (slice_get (documents_of r) p.document) p path inner h

both : (a b : Bool) → (a && b) ≡ true → (a ≡ true) × (b ≡ true)
both true b e = (refl, e)
both false b e = absurd (let no : ⊥ = cc in no)

equal_points : (a b : Point) → same_point a b ≡ true → a ≡ b
equal_points a b e =
    let h = both (bytes_eq a.base b.base) (bytes_eq a.entered b.entered) e in
    let bases : a.base ≡ b.base = (bytes_eq-Decides a.base b.base).0 h.0 in
    let lists : a.entered ≡ b.entered = (bytes_eq-Decides a.entered b.entered).0 h.1 in
    ap (λ (t : List ℕ). let p : Point = record { base = t; entered = a.entered } in p) bases
    ∙ ap (λ (ns : List ℕ). let p : Point = record { base = b.base; entered = ns } in p) lists

same_again : (a : Point) → same_point a a ≡ true
same_again a = rw ((bytes_eq-Decides a.base a.base).1 refl, (bytes_eq-Decides a.entered a.entered).1 refl) refl

pub same_points : (a b : Point) → (same_point a b ≡ true) ↔ (a ≡ b)
same_points a b = (equal_points a b, λ e. subst (λ x. same_point a x ≡ true) e (same_again a))

-- a clone of a state is the same state
pub cloned_points : (s t : DocumentState) → rc_str_bytes t.base ≡ rc_str_bytes s.base → t.entered.value ≡ s.entered.value
    → point_of t ≡ point_of s
cloned_points s t bases lists = cc
