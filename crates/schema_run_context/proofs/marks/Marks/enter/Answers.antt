use Rattle.std.proofs.Common.{◌∙◌, ◌∷◌, List, ap, map, option_map, sym}
use Rattle.std.specs.List.{list_any}
use Rattle.theory_definitions.specs.Guarded.{same_edge}
use Rattle.schema_traits.specs.declared.keyword.Marked.{Marked}
use Rattle.schema_traits.specs.KeywordViews.{marked_of}
use Rattle.schema_run_context.specs.MarkViews.{last_first}
use Rattle.schema_traits.specs.EdgeViews.{edge_of}
use Rattle.schema_run_context.proofs.MarkLists.{added_new, any_last_first, kept_there, last_is_first}
use Rattle.schema_run_context.proofs.marks.Marks.enter.Goals as goal

pub returns-then-is_among-clause-held : goal.returns-then-is_among-clause-held
returns-then-is_among-clause-held c = sym c.if-is_among.true ∙ c.is_among.ensures.found ∙ ap (λ (ms : List Marked). list_any (λ m. same_edge (map (option_map edge_of) c.args.children.now) (marked_of c.args.mark) (marked_of m)) ms) c.as_slice.ensures.value ∙ sym (any_last_first (same_edge (map (option_map edge_of) c.args.children.now) (marked_of c.args.mark)) c.self.inside.marks.items) ∙ ap (list_any (same_edge (map (option_map edge_of) c.args.children.now) (marked_of c.args.mark))) c.self.view_is

pub returns-then-is_among-clause-marks : goal.returns-then-is_among-clause-marks
returns-then-is_among-clause-marks c = kept_there (same_edge (map (option_map edge_of) c.args.children.now)) (marked_of c.args.mark) c.args.self.now (sym (sym c.if-is_among.true ∙ c.is_among.ensures.found ∙ ap (λ (ms : List Marked). list_any (λ m. same_edge (map (option_map edge_of) c.args.children.now) (marked_of c.args.mark) (marked_of m)) ms) c.as_slice.ensures.value ∙ sym (any_last_first (same_edge (map (option_map edge_of) c.args.children.now) (marked_of c.args.mark)) c.self.inside.marks.items) ∙ ap (list_any (same_edge (map (option_map edge_of) c.args.children.now) (marked_of c.args.mark))) c.self.view_is))

pub returns-clause-held : goal.returns-clause-held
returns-clause-held c = sym c.if-is_among.false ∙ c.is_among.ensures.found ∙ ap (λ (ms : List Marked). list_any (λ m. same_edge (map (option_map edge_of) c.args.children.now) (marked_of c.args.mark) (marked_of m)) ms) c.as_slice.ensures.value ∙ sym (any_last_first (same_edge (map (option_map edge_of) c.args.children.now) (marked_of c.args.mark)) c.self.inside.marks.items) ∙ ap (list_any (same_edge (map (option_map edge_of) c.args.children.now) (marked_of c.args.mark))) c.self.view_is

pub returns-clause-marks : goal.returns-clause-marks
returns-clause-marks c = ap last_first c.in_ok-push.ensures.items ∙ last_is_first c.self.inside.marks.items c.args.mark ∙ ap (λ l. (marked_of c.args.mark) ∷ l) c.self.view_is
    ∙ added_new (same_edge (map (option_map edge_of) c.args.children.now)) (marked_of c.args.mark) c.args.self.now (sym (sym c.if-is_among.false ∙ c.is_among.ensures.found ∙ ap (λ (ms : List Marked). list_any (λ m. same_edge (map (option_map edge_of) c.args.children.now) (marked_of c.args.mark) (marked_of m)) ms) c.as_slice.ensures.value ∙ sym (any_last_first (same_edge (map (option_map edge_of) c.args.children.now) (marked_of c.args.mark)) c.self.inside.marks.items) ∙ ap (list_any (same_edge (map (option_map edge_of) c.args.children.now) (marked_of c.args.mark))) c.self.view_is))
