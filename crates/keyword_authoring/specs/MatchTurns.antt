-- A turn of a run that requests a match, as the code takes it.
use Rattle.std.specs.Prelude.{Bool, ◌≡◌}
use Rattle.theory_definitions.specs.Instance.{Text}
use Rattle.theory_definitions.specs.Keywords.{Answer, Turn, done, match_text}
use Rattle.theory_definitions.specs.Matching.{Pair}
use Rattle.schema_traits.specs.KeywordViews.{reply_of}
use Rattle.schema_traits.specs.declared.keyword.Mode.{Mode}
use Rattle.schema_traits.specs.declared.keyword.Reply.{Reply as ReplyOfCall}
use Rattle.keyword_authoring.specs.declared.matching.MatchTurn.{MatchTurn}
use Rattle.keyword_authoring.specs.declared.matching.MatchTurn.TheVariants.{Answered, Asks, Over}
use Rattle.keyword_authoring.specs.declared.run.Progress.{Progress}
use Rattle.keyword_authoring.specs.Ways.{asks_match, match_point, noted, unless, way_step, way_turn}

-- the step that the turn takes
abbrev pub match_turn : Pair → Mode → MatchTurn → Turn
match_turn p m Asks = match_text p (match_point m p.pattern)
match_turn p m (Answered b) = done
match_turn p m Over = done

-- the answer after the turn, by the answer before it, with an error of this name and text if the
-- pattern does not match
abbrev pub match_answer : Text → Text → Mode → Answer → MatchTurn → Answer
match_answer name text m a Asks = a
match_answer name text m a (Answered b) = noted m name a (unless b text)
match_answer name text m a Over = a

-- the run goes on as one that requests a match, whatever its pattern, its error and its answer so
-- far
abbrev pub TurnsMatch : Progress → ReplyOfCall → MatchTurn → Progress → Type 0
TurnsMatch run reply turn run' = (texts : Bool) (name text : Text) (p : Pair) (a : Answer) →
    way_turn (asks_match name p text) (run, a) (reply_of texts reply) ≡ (run', match_answer name text run.mode a turn)

-- the turn takes the step of a run that requests a match
abbrev pub StepsMatch : Progress → ReplyOfCall → MatchTurn → Type 0
StepsMatch run reply turn = (texts : Bool) (name text : Text) (p : Pair) (a : Answer) →
    way_step (asks_match name p text) (run, a) (reply_of texts reply) ≡ match_turn p run.mode turn
