-- What the keywords of a type say of an instance, by their kinds. The kind is `way` of: whether
-- texts are covered (each counts as empty if they are not), the keyword's shape, and the instance.
use Rattle.std.specs.Prelude.{Bool, List, [], false, ℕ}
use Rattle.theory_definitions.specs.Instance.{Subject, Text}
use Rattle.theory_definitions.specs.Keywords.{Answer, Keywords}
use Rattle.theory_definitions.specs.Turns.{Standing}
use Rattle.schema_traits.specs.KeywordViews.{fresh}
use Rattle.keyword_authoring.specs.declared.run.Progress.{Progress}
use Rattle.keyword_authoring.specs.Ways.{Way, questions, way_begin, way_faults, way_holds, way_left, way_step, way_turn, way_turns, way_units}
use Rattle.keyword_authoring.specs.WayRuns.{Replies, end_at, fits_at, replies_by}

-- the true replies to a run
abbrev pub run_replies : Standing (Progress × Answer) → Replies
run_replies x = replies_by x.matches x.answers x.unit_at

module _ {M : Type 0} (way : Bool → M → Subject → Way) where
  abbrev pub words_of : Bool → Keywords M (Progress × Answer)
  words_of texts = record {
    texts = texts;
    may_ask = λ m s. questions (way texts m s);
    spans = λ m s. [];
    is_told = λ m. false;
    holds = λ m s matches accepts. way_holds (way texts m s) matches accepts;
    faults = λ m s matches answers. way_faults (way texts m s) matches answers;
    units = λ m s matches unit_at. way_units (way texts m s) matches unit_at;
    most_turns = λ m s. way_turns (way texts m s);
    begin = λ m s mode. (way_begin mode, fresh mode);
    turn = λ m s. way_turn (way texts m s);
    step = λ m s. way_step (way texts m s);
    answer = λ r. r.1;
  }

  -- they absorb no other keyword
  abbrev pub nothing_absorbed : M → List Text
  nothing_absorbed m = []

  -- the greatest number of turns that are left
  abbrev pub left_at_most : M → Subject → Progress × Answer → ℕ
  left_at_most m s r = way_left (way false m s) r.0.stage

  -- a run can be in any state
  abbrev pub any_state : M → Subject → Progress × Answer → Type 0
  any_state m s r = Unit {0}

  -- the answer with which a run ends
  abbrev pub run_ends : Bool → M → Standing (Progress × Answer) → Answer
  run_ends texts m x = end_at (way texts m x.subject) (run_replies x) x.state.0.mode x.state.0.stage x.state.1

  -- what is true of a run, and of the reply that it takes next
  abbrev pub run_fits : Bool → M → Standing (Progress × Answer) → Type 0
  run_fits texts m x = fits_at (way texts m x.subject) (run_replies x) x.state.0.mode x.state.0.stage x.reply
