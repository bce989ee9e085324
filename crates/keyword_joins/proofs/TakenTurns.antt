-- A maker of one of two tables takes its turns as it does in its own, and ends with a keyword of
-- one of the two types.
use Rattle.std.proofs.Common.{ap, suc, ℕ, ◌≡◌, ◌∙◌}
use Rattle.theory_definitions.specs.Making.{Script, a_keyword, nothing, refused, then_compile, then_end, then_pending, then_refer, then_reserve}
use Rattle.schema_traits.specs.MakerViews.{IsStepOf, TakesTurn, Told, Waiting, a_reserved, a_skip, begun, none_pending, nothing_yet, one_pending, the_number, wants_pending, wants_reserved, waits}
use Rattle.schema_traits.specs.declared.table.MakerStep.{MakerStep}
use Rattle.schema_traits.specs.declared.table.MakerStep.TheVariants.{Compile, Keyword, Nothing, Pending, Refer, Refuse, Reserve}
use Rattle.keyword_joins.specs.BothScripts.{script_as, step_as, waiting_as}

-- where corresponding keywords have corresponding shapes
module _ {C D M K : Type 0} (g : C → D) (f : M → K) (shape : C → M) (shape' : D → K) (alike : (c : C) → shape' (g c) ≡ f (shape c)) where
  steps_as : (n : ℕ) (s : Script M) (step : MakerStep C) (w : Waiting M) → IsStepOf shape n s step w → IsStepOf shape' n (script_as f s) (step_as g step) (waiting_as f w)
  steps_as n (then_compile path s) (Compile p) w h = (h.0, ap (waiting_as f) h.1)
  steps_as n (then_refer text s skipped) (Refer t) w h = (h.0, ap (waiting_as f) h.1)
  steps_as n (then_pending purpose free held) (Pending k) w h = (h.0, ap (waiting_as f) h.1)
  steps_as n (then_reserve purpose s) (Reserve k) w h = (h.0, ap (waiting_as f) h.1)
  steps_as n (then_end (a_keyword m absorbed)) (Keyword k names) w h = (alike k ∙ ap f h.0, h.1)
  steps_as n (then_end nothing) Nothing w h = tt
  steps_as n (then_end (refused told error)) (Refuse e) w h = h
  steps_as n s step w h = absurd h

  pub takes_as : (w : Waiting M) (told : Told) (step : MakerStep C) (w' : Waiting M) → TakesTurn shape w told step w' → TakesTurn shape' (waiting_as f w) told (step_as g step) (waiting_as f w')
  takes_as (begun s) nothing_yet step w' h = steps_as 0 s step w' h
  takes_as (waits n s skipped) (the_number m) step w' h = λ e. steps_as (suc n) s step w' (h e)
  takes_as (waits n s skipped) a_skip step w' h = steps_as (suc n) skipped step w' h
  takes_as (wants_pending n free held) none_pending step w' h = steps_as n free step w' h
  takes_as (wants_pending n free held) one_pending step w' h = steps_as n held step w' h
  takes_as (wants_reserved n s) a_reserved step w' h = steps_as n s step w' h
  takes_as w told step w' h = tt
