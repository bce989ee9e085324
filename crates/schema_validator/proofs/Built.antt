-- A validator that is compiled from a key means the plain meaning of key and parts, and has its units.
use Rattle.std.proofs.Common.{◌≡◌, ℕ, zero, suc, ◌<◌, Bool, true, List, [], ◌∷◌, length, map, refl, sym, ◌∙◌, ap, subst, arith}
use Rattle.std.specs.Prelude.{Some, slice_get, Decides, ◌↔◌}
use Rattle.std.proofs.lemmas.List.{length-map}
use Rattle.serde_json.specs.Data.{Data, Members}
use Rattle.theory_definitions.specs.Instance.{Text}
use Rattle.theory_definitions.specs.Drafts.{Draft, Vocabularies}
use Rattle.theory_definitions.specs.Matching.{Matcher}
use Rattle.theory_definitions.specs.Resolving.{Resolver}
use Rattle.theory_definitions.specs.Making.{Table}
use Rattle.theory_definitions.specs.Keywords.{Keywords}
use Rattle.theory_definitions.specs.Parts.{Parts}
use Rattle.theory_definitions.specs.Plan.{Key}
use Rattle.theory_definitions.specs.Laws.{EachKeeps}
use Rattle.theory_meaning.specs.Headline.{SpeaksRightly, Plainly, PlainlyWithUnits}
use Rattle.theory_meaning.specs.Numbered.{AreNumbered, Ranked, MakersAskBelow}
use Rattle.theory_meaning.specs.Fractions.{MakesWhole, AreWhole}
use Rattle.theory_meaning.specs.Means as means
use Rattle.theory_meaning.proofs.SensesMeant.{numbers_mean, numbers_have_units}
use Rattle.theory_meaning.proofs.WholeNumbers.{numbers_are_whole}
use Rattle.schema_node_table.specs.NodeTable.{NodeEntry, numbered}
use Rattle.schema_traits.specs.ResolverViews.{IsInside}
use Rattle.schema_traits.specs.MakerViews.{MakesRightly}
use Rattle.schema_traits.proofs.PartLaws.{values_inside, asks_below, makes_whole}
use Rattle.schema_keys.specs.Compiling.{no_keywords, no_matcher}
use Rattle.schema_validator.specs.Handed.{Options, parts_of}
use Rattle.schema_validator.specs.Compiled.{IsCompiled}
use Rattle.schema_validator.proofs.OtherParts.{reached_too, numbered_too}

pub in_map : {A : Type 0} (xs : List A) (i : ℕ) (x : A) → slice_get xs i ≡ Some x → slice_get (map Some xs) i ≡ Some (Some x)
in_map [] i x e = absurd (let f : ⊥ = cc in f)
in_map (y ∷ xs) zero x e = let same : y ≡ x = cc in ap (λ z. Some (Some z)) same
in_map (y ∷ xs) (suc i) x e = in_map xs i x e

there : {A : Type 0} (xs : List A) (i : ℕ) → i < length xs → (x : A) × (slice_get xs i ≡ Some x)
there [] i h = absurd (omega arith)
there (x ∷ xs) zero h = (x, refl)
there (x ∷ xs) (suc i) h = there xs i (omega arith)

-- the law of a keyword table, over all of its scripts
abbrev pub EachScript : {K : Type 0} → (K → List Text) → (K → Bool) → Table K → Type 0
EachScript absorbed is_whole table = (own : Bool) (name : Text) (object : Members) (draft : Draft) (vocabularies : Vocabularies) (formats : Bool)
    → MakesRightly absorbed is_whole object (table.script own name object draft vocabularies formats)

module _ {S K R : Type 0} (resolver : Resolver S) (table : Table K) (options : Options) (matcher : Matcher) (keywords : Keywords K R) (absorbed : K → List Text) (is_whole : K → Bool)
    (inside : IsInside resolver) (same : (a b : S) → (resolver.same_state a b ≡ true) ↔ (a ≡ b)) (scripts : EachScript absorbed is_whole table) (keeps : EachKeeps keywords) where
  abbrev w : Parts S K R
  w = parts_of resolver table matcher keywords options

  abbrev w0 : Parts S K (Unit {0})
  w0 = parts_of resolver table no_matcher no_keywords options

  makers_below : MakersAskBelow table
  makers_below own name object draft vocabularies formats is_self = asks_below absorbed is_whole object is_self (table.script own name object draft vocabularies formats) (scripts own name object draft vocabularies formats)

  wholly : MakesWhole is_whole table
  wholly own name object draft vocabularies formats is_self m names e f = makes_whole absorbed is_whole object is_self (table.script own name object draft vocabularies formats) (scripts own name object draft vocabularies formats) m names e f

  decides : (a b : S) → Decides (resolver.same_state a b) (a ≡ b)
  decides a b = same a b

  module _ {C : Type 0} (shape : C → K) (nodes : List (NodeEntry C)) (number : ℕ) (root : Key S) (compiled : IsCompiled w0 shape root nodes number) where
    numbers : AreNumbered w (map Some compiled.keys) (numbered shape nodes)
    numbers = numbered_too resolver table no_matcher matcher no_keywords keywords options (map Some compiled.keys) (numbered shape nodes) compiled.numbers

    pub whole_from : (instance : Data) → SpeaksRightly w root instance → keywords.texts ≡ true → AreWhole is_whole (numbered shape nodes) (length nodes)
    whole_from instance speaks told = λ i h.
        let l = compiled.lengths in
        let k = there compiled.keys i (omega arith) in
        let reached = reached_too resolver table no_matcher matcher no_keywords keywords options (compiled.reached i k.0 k.1) in
        numbers_are_whole w is_whole (map Some compiled.keys) (numbered shape nodes) wholly numbers i k.0 (in_map compiled.keys i k.0 k.1) ((speaks told).1 k.0 reached)

    ranked : Ranked (numbered shape nodes) (length (map Some compiled.keys))
    ranked = subst (Ranked (numbered shape nodes)) (compiled.lengths ∙ sym (length-map compiled.keys Some)) compiled.ranked

    pub means_from : (instance : Data) → Plainly w root instance (means.Means keywords matcher (numbered shape nodes) number instance)
    means_from instance = numbers_mean w (map Some compiled.keys) (numbered shape nodes) keeps (values_inside w inside) makers_below decides numbers ranked instance number root (in_map compiled.keys number root compiled.is_root)

    pub units_from : (instance : Data) → PlainlyWithUnits w root instance (λ v units. means.HaveUnits keywords matcher (numbered shape nodes) number instance units)
    units_from instance = numbers_have_units w (map Some compiled.keys) (numbered shape nodes) keeps (values_inside w inside) makers_below decides numbers ranked instance number root (in_map compiled.keys number root compiled.is_root)
