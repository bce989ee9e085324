-- The runs of a course: each turn leaves fewer to take and does not change the final answer, which
-- is the one that the course means.
use Rattle.std.proofs.Common.{◌≡◌, ◌∙◌, ℕ, ◌+◌, ◌<◌, ◌⊎◌, ◌&&◌, ◌++◌, ◌∷◌, [], List, Bool, true, false, Option, Some, None, refl, sym, ap, ap₂, inl, length, map, append_assoc, append-nil}
use Rattle.std.specs.List.{list_all}
use Rattle.std.specs.Prelude.{flat_map, if◌then◌else◌}
use Rattle.theory_definitions.specs.Instance.{Text}
use Rattle.theory_definitions.specs.Reports.{Unit_, report_of}
use Rattle.theory_definitions.specs.Matching.{Matching}
use Rattle.theory_definitions.specs.Keywords.{Answer, Answers, Gives, Question, Reply, done, for_all, for_first, for_units, for_verdict}
use Rattle.theory_definitions.specs.Keywords as spec
use Rattle.theory_definitions.specs.Laws.{first_fault}
use Rattle.schema_traits.specs.KeywordViews.{fresh, with_errors}
use Rattle.schema_traits.specs.declared.keyword.Mode.{Mode}
use Rattle.schema_traits.specs.declared.keyword.Mode.TheVariants as mode
use Rattle.keyword_authoring.specs.Somes.{some_from, somes}
use Rattle.keyword_authoring.specs.WayRuns.{IsTrueMatch, IsTrueNext, Keeps, Replies, end_at, fits_at, led, replies_by, reply_for, way_ends, way_falls, way_keeps, way_stands}
use Rattle.keyword_authoring.specs.Ways.{Way, at_first, goes_on, left_of, mode_from, next_some, noted, passes_some, stage_after, stage_some, step_at, tells, with_unit}
use Rattle.keyword_authoring.specs.declared.run.Progress.{Progress}
use Rattle.keyword_authoring.specs.declared.run.Stage.{Stage}
use Rattle.keyword_authoring.specs.declared.run.Stage.TheVariants.{Asked, Begun, Counted, Ended}
use Rattle.standard_applicators.specs.Courses.{Course, by_way, course_faults, course_holds, course_places, course_step, course_turn, course_units, end_by, ends_run, fits_by, left_to_ask, tells_first}

-- ---- A number falls with each turn.

falls_begun : (e : Bool) (os : List (Option Question)) (m : Mode) (r : Reply)
    → (step_at (passes_some (left_to_ask Begun e os)) m Begun r ≡ done)
    ⊎ (left_of (length os) (stage_after (passes_some (left_to_ask Begun e os)) m Begun r) < left_of (length os) Begun)
falls_begun true os m r = inl refl
falls_begun false os m r = way_falls (passes_some os) m Begun r

falls_told : (e : Bool) (os : List (Option Question)) (m : Mode) (stage : Stage) (r : Reply)
    → (step_at (passes_some (left_to_ask stage e os)) m stage r ≡ done)
    ⊎ (left_of (length os) (stage_after (passes_some (left_to_ask stage e os)) m stage r) < left_of (length os) stage)
falls_told e os m Begun r = falls_begun e os m r
falls_told e os m (Asked i) r = way_falls (passes_some os) m (Asked i) r
falls_told e os m (Counted i n) r = way_falls (passes_some os) m (Counted i n) r
falls_told e os m Ended r = way_falls (passes_some os) m Ended r

pub course_falls : (c : Course) (x : Progress × Answer) (r : Reply)
    → (course_step c x r ≡ done) ⊎ (left_of (course_places c) (course_turn c x r).0.stage < left_of (course_places c) x.0.stage)
course_falls (by_way w) x r = way_falls w x.0.mode x.0.stage r
course_falls (tells_first name ts os) x r = falls_told (ends_run x.0.mode ts) os x.0.mode x.0.stage r

-- ---- A turn whose reply is the true one does not change the final answer.

-- The first turn reports the course's own errors.
module _ (e : Bool) (os : List (Option Question)) (replies : Replies) (m : Mode) (told a end : Answer) (next : Reply) where
  abbrev KeptAt : Stage → Type 0
  KeptAt stage = fits_at (passes_some (left_to_ask stage e os)) replies m stage next
      × (end_at (passes_some (left_to_ask stage e os)) replies m stage (at_first stage told a) ≡ end)

  kept_at : (o : Option (ℕ × Question)) → fits_at (passes_some os) replies m (stage_some o) next → end_at (passes_some os) replies m (stage_some o) a ≡ end → KeptAt (stage_some o)
  kept_at None fits ends = (fits, ends)
  kept_at (Some p) fits ends = (fits, ends)

keeps_begun : (e : Bool) (os : List (Option Question)) (replies : Replies) (m : Mode) (told a : Answer) (r next : Reply)
    → (step_at (passes_some (left_to_ask Begun e os)) m Begun r ≡ done → ⊥)
    → IsTrueNext replies (step_at (passes_some (left_to_ask Begun e os)) m Begun r) next → IsTrueMatch replies (step_at (passes_some (left_to_ask Begun e os)) m Begun r) next
    → KeptAt e os replies m told a (end_at (passes_some (left_to_ask Begun e os)) replies m Begun a) next (stage_after (passes_some (left_to_ask Begun e os)) m Begun r)
keeps_begun true os replies m told a r next h f g = absurd (h refl)
keeps_begun false os replies m told a r next h f g =
    let kept : Keeps (passes_some os) replies m Begun a r next = way_keeps (passes_some os) replies m Begun a r next tt h f g in
    kept_at false os replies m told a (end_at (passes_some os) replies m Begun a) next (some_from 0 os) kept.fits kept.ends

module _ (name : Text) (ts : List Text) (os : List (Option Question)) (replies : Replies) where
  tells_keeps : (m : Mode) (stage : Stage) (a : Answer) (r next : Reply) → fits_by (tells_first name ts os) replies (record { mode = m; stage = stage }, a) r
      → (course_step (tells_first name ts os) (record { mode = m; stage = stage }, a) r ≡ done → ⊥)
      → IsTrueNext replies (course_step (tells_first name ts os) (record { mode = m; stage = stage }, a) r) next
      → IsTrueMatch replies (course_step (tells_first name ts os) (record { mode = m; stage = stage }, a) r) next
      → fits_by (tells_first name ts os) replies (course_turn (tells_first name ts os) (record { mode = m; stage = stage }, a) r) next
      × (end_by (tells_first name ts os) replies (course_turn (tells_first name ts os) (record { mode = m; stage = stage }, a) r)
      ≡ end_by (tells_first name ts os) replies (record { mode = m; stage = stage }, a))
  tells_keeps m Begun a r next fits h f g = keeps_begun (ends_run m ts) os replies m (noted m name (noted m name a ts) ts) (noted m name a ts) r next h f g
  tells_keeps m (Asked i) a r next fits h f g =
      let kept : Keeps (passes_some os) replies m (Asked i) a r next = way_keeps (passes_some os) replies m (Asked i) a r next fits h f g in
      kept_at (ends_run m ts) os replies m _ _ (end_at (passes_some os) replies m (Asked i) a) next (next_some (goes_on r) (some_from (i + 1) os)) kept.fits kept.ends
  tells_keeps m (Counted i n) a r next fits h f g = absurd (h refl)
  tells_keeps m Ended a r next fits h f g = absurd (h refl)

pub course_keeps : (c : Course) (replies : Replies) (x : Progress × Answer) (r next : Reply) → fits_by c replies x r → (course_step c x r ≡ done → ⊥)
    → IsTrueNext replies (course_step c x r) next → IsTrueMatch replies (course_step c x r) next
    → fits_by c replies (course_turn c x r) next × (end_by c replies (course_turn c x r) ≡ end_by c replies x)
course_keeps (by_way w) replies x r next fits h f g =
    let kept : Keeps w replies x.0.mode x.0.stage x.1 r next = way_keeps w replies x.0.mode x.0.stage x.1 r next fits h f g in (kept.fits, kept.ends)
course_keeps (tells_first name ts os) replies x r next fits h f g = tells_keeps name ts os replies x.0.mode x.0.stage x.1 r next fits h f g

pub course_stands : (c : Course) (replies : Replies) (x : Progress × Answer) (r : Reply) → fits_by c replies x r → course_step c x r ≡ done → (course_turn c x r).1 ≡ end_by c replies x
course_stands (by_way w) replies x r fits h = way_stands w replies x.0.mode x.0.stage x.1 r fits h
course_stands (tells_first name ts os) replies x r fits h =
    way_stands (passes_some (left_to_ask x.0.stage (ends_run x.0.mode ts) os)) replies x.0.mode x.0.stage (at_first x.0.stage (noted x.0.mode name x.1 ts) x.1) r fits h

-- ---- The final answer is the course's own.

and_true : (b : Bool) → b ≡ b && true
and_true true = refl
and_true false = refl

valid_step : (b accepted all : Bool) → (if b then accepted else false) && all ≡ accepted && (b && all)
valid_step true accepted all = refl
valid_step false true all = refl
valid_step false false all = refl

module _ (answers : Answers) (u : Question → Unit_) where
  led_all : (qs : List Question) (a : Answer) → (led (reply_for mode.All answers u) a qs).errors ≡ a.errors ++ flat_map (λ q. map spec.passed (answers q).errors) qs
  led_all [] a = sym (append-nil a.errors)
  led_all (q ∷ qs) a = led_all qs (with_errors for_all (a.errors ++ map spec.passed (answers q).errors)) ∙ append_assoc a.errors (map spec.passed (answers q).errors) _

  abbrev with_units : Gives → List Question → Gives
  with_units g qs = record g { valid = g.valid && list_all (λ q. (report_of (u q)).valid) qs; children = g.children ++ map u qs }

  led_gives : (qs : List Question) (a : Answer) → (led (reply_for mode.Evaluate answers u) a qs).gives ≡ with_units a.gives qs
  led_gives [] a = ap₂ (λ v us. record a.gives { valid = v; children = us }) (and_true a.gives.valid) (sym (append-nil a.gives.children))
  led_gives (q ∷ qs) a = led_gives qs (with_unit a (u q))
      ∙ ap₂ (λ v us. record a.gives { valid = v; children = us }) (valid_step (report_of (u q)).valid a.gives.valid (list_all (λ q. (report_of (u q)).valid) qs)) (append_assoc a.gives.children (u q ∷ []) (map u qs))

  led_valid : ((q : Question) → (report_of (u q)).valid ≡ (answers q).verdict) → (qs : List Question) (a : Answer)
      → (led (reply_for mode.Evaluate answers u) a qs).verdict ≡ (a.verdict && list_all (λ q. (answers q).verdict) qs)
  led_valid valid [] a = and_true a.verdict
  led_valid valid (q ∷ qs) a = led_valid valid qs (with_unit a (u q)) ∙ (valid_step (report_of (u q)).valid a.verdict (list_all (λ q. (answers q).verdict) qs)
      ∙ ap (λ b. a.verdict && (b && list_all (λ q. (answers q).verdict) qs)) (valid q))

-- the final answer that is required, by mode
abbrev pub IsCourseEnd : Course → Matching → Answers → (Question → Unit_) → spec.Mode → Answer → Type 0
IsCourseEnd c matching answers u for_verdict a = a.verdict ≡ course_holds c matching (λ q. (answers q).verdict)
IsCourseEnd c matching answers u for_first a = a.errors ≡ first_fault (course_faults c matching answers)
IsCourseEnd c matching answers u for_all a = a.errors ≡ course_faults c matching answers
IsCourseEnd c matching answers u for_units a = (a.gives ≡ course_units c matching u) × (a.verdict ≡ course_holds c matching (λ q. (answers q).verdict))

module _ (matching : Matching) (answers : Answers) (u : Question → Unit_) (valid : (q : Question) → (report_of (u q)).valid ≡ (answers q).verdict) where
  way_end : (w : Way) (mode' : spec.Mode) → IsCourseEnd (by_way w) matching answers u mode' (end_by (by_way w) (replies_by matching answers u) (record { mode = mode_from mode'; stage = Begun }, fresh mode'))
  way_end w for_verdict = way_ends w matching answers u valid for_verdict
  way_end w for_first = way_ends w matching answers u valid for_first
  way_end w for_all = way_ends w matching answers u valid for_all
  way_end w for_units = way_ends w matching answers u valid for_units

  told_end : (name : Text) (ts : List Text) (os : List (Option Question)) (mode' : spec.Mode)
      → IsCourseEnd (tells_first name ts os) matching answers u mode' (end_by (tells_first name ts os) (replies_by matching answers u) (record { mode = mode_from mode'; stage = Begun }, fresh mode'))
  told_end name [] os for_verdict = way_ends (passes_some os) matching answers u valid for_verdict
  told_end name (t ∷ ts) os for_verdict = way_ends (tells name (t ∷ ts)) matching answers u valid for_verdict
  told_end name [] os for_first = way_ends (passes_some os) matching answers u valid for_first
  told_end name (t ∷ ts) os for_first = way_ends (tells name (t ∷ ts)) matching answers u valid for_first
  told_end name ts os for_all = led_all answers u (somes os) (noted mode.All name (fresh for_all) ts)
      ∙ ap (λ fs. fs ++ flat_map (λ q. map spec.passed (answers q).errors) (somes os)) (way_ends (tells name ts) matching answers u valid for_all)
  told_end name ts os for_units =
      let own_part = way_ends (tells name ts) matching answers u valid for_units in (
        led_gives answers u (somes os) (noted mode.Evaluate name (fresh for_units) ts) ∙ ap (λ g. with_units answers u g (somes os)) own_part.0,
        led_valid answers u valid (somes os) (noted mode.Evaluate name (fresh for_units) ts) ∙ ap (λ b. b && list_all (λ q. (answers q).verdict) (somes os)) own_part.1,
      )

  pub course_ends : (c : Course) (mode' : spec.Mode) → IsCourseEnd c matching answers u mode' (end_by c (replies_by matching answers u) (record { mode = mode_from mode'; stage = Begun }, fresh mode'))
  course_ends (by_way w) mode' = way_end w mode'
  course_ends (tells_first name ts os) mode' = told_end name ts os mode'
