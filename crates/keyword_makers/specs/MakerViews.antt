-- The code's makers, in terms of the definitions.
use Rattle.std.specs.Prelude.{option_map, [], true, ◌≡◌}
use Rattle.theory_definitions.specs.Making.{Made, Script, a_keyword, nothing, refused}
use Rattle.schema_reports.specs.ReportViews.{owned_error_of}
use Rattle.schema_traits.specs.MakerViews.{TakesTurn, Waiting, begun, maker_reply_of}
use Rattle.keyword_makers.specs.Making.{waiting_in}
use Rattle.keyword_makers.specs.declared.maker.Ending.{Ending}
use Rattle.keyword_makers.specs.declared.maker.Ending.TheVariants as ending
use Rattle.keyword_makers.specs.declared.maker.PathsMaker.{PathsMaker}
use Rattle.schema_traits.specs.declared.table.MakerReply.{MakerReply}
use Rattle.schema_traits.specs.declared.table.MakerStep.{MakerStep}

-- how a maker ends; `shape` returns what is known of a keyword apart from its representation
abbrev pub made_of : {C K : Type 0} → (C → K) → Ending C → Made K
made_of shape (ending.Keyword k) = a_keyword (shape k) []
made_of shape ending.Nothing = nothing
made_of shape (ending.Refused e) = refused true (owned_error_of e)

abbrev pub waiting_of : {C K : Type 0} → (C → K) → PathsMaker C → Waiting K
waiting_of shape m = waiting_in m.paths.items m.asked (option_map (made_of shape) m.ends)

-- the maker waits for its first turn, and follows this script
abbrev pub Begins : {C K : Type 0} → (C → K) → Script K → PathsMaker C → Type 0
Begins shape script maker = waiting_of shape maker ≡ begun script

-- the maker takes a turn after this reply, with this step
abbrev pub TakesPathsTurn : {C K : Type 0} → (C → K) → PathsMaker C → MakerReply → PathsMaker C → MakerStep C → Type 0
TakesPathsTurn shape old reply new step = TakesTurn shape (waiting_of shape old) (maker_reply_of reply) step (waiting_of shape new)
