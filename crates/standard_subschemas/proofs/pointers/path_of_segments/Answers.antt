use Rattle.std.proofs.Common.{◌∙◌, ◌==◌, ◌+◌, ◌++◌, Bor, Some, sym, ap, arith, lit<, option_map, length, drop, append-nil}
use Rattle.std.specs.List.{slice_split}
use Rattle.std.proofs.lemmas.List.{length_push}
use Rattle.std.proofs.lemmas.Iterator.Consumers.{YieldsList-turn, YieldsList-end}
use Rattle.std.proofs.lemmas.Iterator.Splits.{YieldsList-from_str_split}
use Rattle.serde_json.specs.View.{view}
use Rattle.serde_json.specs.declared.value.Value.{Value}
use Rattle.theory_definitions.specs.Instance.{Place, a_value}
use Rattle.schema_traits.specs.SchemaViews.{schema_step_of}
use Rattle.standard_subschemas.specs.SubschemaRules.{data_of}
use Rattle.standard_subschemas.specs.DocumentPointers.{path_named}
use Rattle.standard_subschemas.proofs.PathsNamed.{longer, names_all, names_no_step, names_nothing, names_step}
use Rattle.standard_subschemas.proofs.pointers.path_of_segments.Goals as goal

pub returns-in_default : goal.returns-in_default
returns-in_default c =
    let t = YieldsList-turn (YieldsList-from_str_split 47 c.args.segments.now (lit< tt) (cc) (cc) (cc)) c.loop-segment.yielded _
    c.loop-segment.yielded_by _ _ c.in-Some.segment c.in-Some.is c.next.ensures.steps in
    let no_step = sym c.in_ok-step.ensures.step ∙ ap (option_map schema_step_of) c.in_default.is in
    let none = names_no_step (slice_split (λ b. b == 47) c.args.segments.now) (length c.loop-segment.yielded) c.in-Some.segment.now
    (view c.loop-segment.reached.now) t no_step in
    record { path = sym (c.loop-segment.invariant ∙ ap (option_map (λ (rest : Place). c.loop-segment.path ++ rest)) none) }

pub returns-in_default-value_below : goal.returns-in_default-value_below
returns-in_default-value_below c =
    let t = YieldsList-turn (YieldsList-from_str_split 47 c.args.segments.now (lit< tt) (cc) (cc) (cc)) c.loop-segment.yielded _
    c.loop-segment.yielded_by _ _ c.in-Some.segment c.in-Some.is c.next.ensures.steps in
    let step = sym c.in_ok-step.ensures.step ∙ ap (option_map schema_step_of) c.in-Some-2.is in
    let nothing = ap data_of (sym c.value_below.ensures.below
    ∙ ap (option_map (λ (v : Bor Value). a_value (view v.now))) c.in_default-value_below.is) in
    let none = names_nothing (slice_split (λ b. b == 47) c.args.segments.now) (length c.loop-segment.yielded) c.in-Some.segment.now
    (view c.loop-segment.reached.now) _ t step nothing in
    record { path = sym (c.loop-segment.invariant ∙ ap (option_map (λ (rest : Place). c.loop-segment.path ++ rest)) none) }

pub loop-segment-preserved : goal.loop-segment-preserved
loop-segment-preserved c =
    let named = slice_split (λ b. b == 47) c.args.segments.now in
    let n = length c.loop-segment.yielded in
    let below = view c.in-Some-value_below.below.now in
    let t = YieldsList-turn (YieldsList-from_str_split 47 c.args.segments.now (lit< tt) (cc) (cc) (cc)) c.loop-segment.yielded _
    c.loop-segment.yielded_by _ _ c.in-Some.segment c.in-Some.is c.next.ensures.steps in
    let step = sym c.in_ok-step.ensures.step ∙ ap (option_map schema_step_of) c.in-Some-2.is in
    let value = ap data_of (sym c.value_below.ensures.below
    ∙ ap (option_map (λ (v : Bor Value). a_value (view v.now))) c.in-Some-value_below.is) in
    let more = length_push c.loop-segment.yielded c.in-Some.segment in
    c.loop-segment.invariant
    ∙ ap (option_map (λ (rest : Place). c.loop-segment.path ++ rest))
    (names_step named n c.in-Some.segment.now (view c.loop-segment.reached.now) below _ t step value)
    ∙ longer c.loop-segment.path _ (path_named (drop (n + 1) named) below)
    ∙ ap (λ (p : Place). option_map (λ (rest : Place). p ++ rest) (path_named (drop (n + 1) named) below))
    (sym c.in_ok-push.ensures.pushed)
    ∙ ap (λ k. option_map (λ (rest : Place). c.push.new.self ++ rest) (path_named (drop k named) below)) (sym more)

pub returns : goal.returns
returns c =
    let t = YieldsList-end (YieldsList-from_str_split 47 c.args.segments.now (lit< tt) (cc) (cc) (cc)) c.loop-segment.yielded _
    c.loop-segment.yielded_by _ _ c.in-None.is c.next.ensures.steps in
    let all = names_all (slice_split (λ b. b == 47) c.args.segments.now) (length c.loop-segment.yielded) (view c.loop-segment.reached.now)
    (omega (arith, t.1)) in
    record {
      path = sym (c.loop-segment.invariant ∙ ap (option_map (λ (rest : Place). c.loop-segment.path ++ rest)) all
          ∙ ap (λ (p : Place). Some p) (append-nil c.loop-segment.path));
    }
