-- The last one of a vector comes first in the definition.
use Rattle.std.proofs.Common.{◌≡◌, List, [], ◌∷◌, ◌++◌, ap, refl, sym, ◌∙◌, length, suc, arith}
use Rattle.std.proofs.lemmas.List.{length-append}
use Rattle.pattern_reader.specs.States as spec
use Rattle.std.proofs.Common.{Ok, Err}
use Rattle.pattern_reader.specs.Reading as reading
use Rattle.pattern_reader.specs.Views.{part_of, parts_of, level_of, levels_of, state_of}
use Rattle.pattern_reader.specs.Groups.{names_of}
use Rattle.pattern_reader.specs.declared.groups.GroupName.{GroupName}
use Rattle.pattern_reader.specs.declared.states.State.{State}
use Rattle.pattern_characters.specs.declared.faults.Fault.TheVariants.{OpenGroup}
use Rattle.pattern_reader.specs.declared.states.Part.{Part}
use Rattle.pattern_reader.specs.declared.states.Level.{Level}

pub parts_more : (parts : List Part) (p : Part) → parts_of (parts ++ p ∷ []) ≡ part_of p ∷ parts_of parts
unfolding parts_of
parts_more [] p = refl
parts_more (q ∷ parts) p = ap (λ (v : spec.Parts). v ++ part_of q ∷ []) (parts_more parts p)

pub levels_more : (levels : List Level) (l : Level) → levels_of (levels ++ l ∷ []) ≡ level_of l ∷ levels_of levels
unfolding levels_of
levels_more [] l = refl
levels_more (k ∷ levels) l = ap (λ (v : List spec.Level). v ++ level_of k ∷ []) (levels_more levels l)

pub parts_none : parts_of [] ≡ []
unfolding parts_of
parts_none = refl

pub levels_none : levels_of [] ≡ []
unfolding levels_of
levels_none = refl

pub levels_length : (levels : List Level) → length (levels_of levels) ≡ length levels
unfolding levels_of
levels_length [] = refl
levels_length (l ∷ levels) = length-append (levels_of levels) (level_of l ∷ []) ∙ omega (arith, levels_length levels)

pub parts_empty : (parts : List Part) → length parts ≡ 0 → parts_of parts ≡ []
unfolding parts_of
parts_empty [] e = refl
parts_empty (p ∷ parts) e = absurd (omega arith)

pub levels_empty : (levels : List Level) → length levels ≡ 0 → levels_of levels ≡ []
unfolding levels_of
levels_empty [] e = refl
levels_empty (l ∷ levels) e = absurd (omega arith)

pub ended_none : (s : State) → length s.around.items ≡ 0 → reading.ended (state_of s) ≡ Ok (state_of s)
ended_none s e = ap (reading.if_closed (state_of s)) (levels_empty s.around.items e)

pub ended_some : (s : State) → (length s.around.items ≡ 0 → ⊥) → reading.ended (state_of s) ≡ Err (record { fault = OpenGroup; left = 0 })
ended_some s e = go (levels_of s.around.items) (levels_length s.around.items)
  where
    go : (ls : List spec.Level) → length ls ≡ length s.around.items → reading.if_closed (state_of s) ls ≡ Err (record { fault = OpenGroup; left = 0 })
    go [] q = absurd (e (sym q))
    go (l ∷ ls) q = refl

pub names_length : (names : List GroupName) → length (names_of names) ≡ length names
names_length [] = refl
names_length (n ∷ names) = ap suc (names_length names)
