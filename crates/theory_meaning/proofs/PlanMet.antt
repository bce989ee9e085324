-- Each match that the run of a plan meets has a property if each match that the runs of its entries
-- meet has it.
use Rattle.std.proofs.Common.{Bool, List, [], cond, false, true, ◌++◌, ◌∷◌, ◌||◌}
use Rattle.std.specs.Prelude.{All, if◌then◌else◌}
use Rattle.std.specs.List.{filter, list_all, list_any}
use Rattle.std.proofs.lemmas.List.Elements.{All-append, All-nil}
use Rattle.theory_definitions.specs.Keywords.{Mode, for_all, for_first, for_units, for_verdict}
use Rattle.theory_definitions.specs.Runs.{Looked, Met, Run, each_other_met, node_met, others_met, plan_met, plan_spanning, without_verdict}

module _ (P : Met → Type 0) where
  abbrev pub Each : List Met → Type 0
  Each = All P

  -- Each match that a run meets, in each mode and for its span.
  pub record RunHas (r : Run) : Type 0 where
    pub each : (mode : Mode) → Each (r.met mode)
    pub spanning : Each r.spanning

  -- Each match that the runs of these entries meet.
  abbrev pub EachHas : List Looked → Type 0
  EachHas [] = Unit {0}
  EachHas (l ∷ ls) = ((mode : Mode) → Each (l.met mode)) × Each l.spanning × EachHas ls

  pub nothing : Each []
  nothing = All-nil P

  pub both_have : (xs ys : List Met) → Each xs → Each ys → Each (xs ++ ys)
  both_have xs ys h t = All-append P xs ys h t

  pub or_nothing : (b : Bool) (xs ys : List Met) → Each xs → Each ys → Each (elim b [ true ↦ xs | false ↦ ys ])
  or_nothing true xs ys h t = h
  or_nothing false xs ys h t = t

  pub either_has : {r r' : Run} (t : Bool) → RunHas r → RunHas r' → RunHas (elim t [ true ↦ r | false ↦ r' ])
  either_has true x y = x
  either_has false x y = y

  pub without_verdict_has : (b : Bool) (r : Run) → RunHas r → RunHas (without_verdict b r)
  without_verdict_has false r h = h
  without_verdict_has true r h = record { each = by; spanning = h.spanning }
    where
      by : (mode : Mode) → Each ((without_verdict true r).met mode)
      by for_verdict = nothing
      by for_first = h.each for_first
      by for_all = h.each for_all
      by for_units = h.each for_units

  pub plan_has : (mode : Mode) (ls : List Looked) → EachHas ls → Each (plan_met mode ls)
  plan_has mode [] h = nothing
  plan_has for_units (l ∷ ls) h = both_have _ _ (h.0 for_units) (plan_has for_units ls h.2)
  plan_has for_verdict (l ∷ ls) h = both_have _ _ (h.0 for_verdict) (or_nothing l.holds _ _ (plan_has for_verdict ls h.2) nothing)
  plan_has for_first (l ∷ ls) h = or_nothing l.is_leaf _ _
      (both_have _ _ (h.0 for_verdict) (or_nothing l.holds _ _ (plan_has for_first ls h.2) (h.0 for_first)))
      (both_have _ _ (h.0 for_first) (or_nothing l.holds _ _ (plan_has for_first ls h.2) nothing))
  plan_has for_all (l ∷ ls) h = or_nothing l.is_leaf _ _
      (both_have _ _ (h.0 for_verdict) (both_have _ _ (or_nothing l.holds _ _ nothing (h.0 for_all)) (plan_has for_all ls h.2)))
      (both_have _ _ (h.0 for_all) (plan_has for_all ls h.2))

  others_have : (ls : List Looked) → EachHas ls → Each (others_met ls)
  others_have [] h = nothing
  others_have (l ∷ ls) h = or_nothing l.is_told _ _ (others_have ls h.2) (both_have _ _ h.1 (or_nothing l.holds _ _ (others_have ls h.2) nothing))

  other_has : (told : Bool) (xs : List Met) → Each xs → Each (if told then [] else xs)
  other_has true xs h = nothing
  other_has false xs h = h

  each_other_has : (ls : List Looked) → EachHas ls → Each (each_other_met ls)
  each_other_has [] h = nothing
  each_other_has (l ∷ ls) h = both_have (if l.is_told then [] else l.spanning) (each_other_met ls) (other_has l.is_told l.spanning h.1) (each_other_has ls h.2)

  told_have : (ls : List Looked) → EachHas ls → EachHas (filter (λ x. x.is_told) ls)
  told_have [] h = tt
  told_have (l ∷ ls) h = go l.is_told (told_have ls h.2)
    where
      go : (b : Bool) → EachHas (filter (λ x. x.is_told) ls) → EachHas (cond b (l ∷ filter (λ x. x.is_told) ls) (filter (λ x. x.is_told) ls))
      go true rest = (h.0, h.1, rest)
      go false rest = rest

  pub plan_spanning_has : (ls : List Looked) → EachHas ls → Each (plan_spanning ls)
  plan_spanning_has ls h = both_have _ _ (others_have ls h)
      (or_nothing (list_all (λ x. x.is_told || x.holds) ls) _ _ (plan_has for_verdict (filter (λ x. x.is_told) ls) (told_have ls h)) nothing)

  pub node_has : (mode : Mode) (ls : List Looked) → EachHas ls → Each (node_met mode ls)
  node_has mode ls h = go (list_any (λ x. x.is_told) ls) mode
    where
      go : (b : Bool) (mode' : Mode) → Each (elim b [
        | false ↦ plan_met mode' ls
        | true ↦ elim mode' [ for_verdict ↦ plan_spanning ls | for_first ↦ each_other_met ls ++ plan_met for_first ls | for_all ↦ each_other_met ls ++ plan_met for_all ls | for_units ↦ each_other_met ls ++ plan_met for_units ls ]
      ])
      go false mode' = plan_has mode' ls h
      go true for_verdict = plan_spanning_has ls h
      go true for_first = both_have _ _ (each_other_has ls h) (plan_has for_first ls h)
      go true for_all = both_have _ _ (each_other_has ls h) (plan_has for_all ls h)
      go true for_units = both_have _ _ (each_other_has ls h) (plan_has for_units ls h)
