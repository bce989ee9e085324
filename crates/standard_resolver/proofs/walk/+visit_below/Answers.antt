use Rattle.std.proofs.Common.{◌≡◌, ◌∙◌, ◌<◌, ◌++◌, ◌∷◌, [], List, ap, arith, map, subst, sym}
use Rattle.std.specs.Prelude.{Option, flat_map, unwrap_or}
use Rattle.serde_json.specs.Data.{depth}
use Rattle.serde_json.specs.View.{view}
use Rattle.theory_definitions.specs.Instance.{Text}
use Rattle.schema_drafts.specs.KeywordViews.{draft_of}
use Rattle.standard_subschemas.specs.DocumentUris.{base_inside}
use Rattle.standard_subschemas.specs.PlainSchemas.{IsPlain}
use Rattle.standard_subschemas.specs.SubschemaRules.{subschemas}
use Rattle.standard_subschemas.specs.declared.rules.Rule.{Rule}
use Rattle.standard_subschemas.specs.FoundSchemas.{found_at}
use Rattle.standard_subschemas.specs.FoundViews.{found_of, path_of}
use Rattle.standard_subschemas.specs.declared.below.FoundSchema.{FoundSchema}
use Rattle.standard_resolver.specs.ResourceSpeaking.{kept_if, speaks}
use Rattle.standard_resolver.specs.DialectViews.{dialect_of}
use Rattle.standard_resolver.specs.DocumentViews.{visited_of}
use Rattle.standard_resolver.proofs.Walks.{adds_nothing, finished, found_lower, from, goes_on, leaves, next_found, one_back, passed}
use Rattle.standard_resolver.proofs.Walks.{subschemas_have, turned, way_more}
use Rattle.standard_resolver.proofs.walk.+visit_below.Goals as goal

pub visit_below-requires : goal.visit_below-requires
visit_below-requires t c =
    let schema = view c.args.schema.now in
    let items = c.deref-found-items.result.now in
    let all : map found_of items ≡ map (found_at schema) (subschemas c.args.reading.now.rule (draft_of c.args.dialect.draft) schema) =
    ap (map found_of) c.deref-found-items.ensures.value ∙ c.in_ok-subschemas_found.ensures.found
    ∙ ap (λ (rule : Rule). map (found_at schema) (subschemas rule (draft_of c.args.dialect.draft) schema)) c.rule-rule.ensures.rule in
    let low : depth (view c.found-item.result.schema.now) < depth schema =
    found_lower schema items (subschemas c.args.reading.now.rule (draft_of c.args.dialect.draft) schema) c.loop-found.found-index c.found-item.result all
    (subschemas_have c.args.reading.now.rule (draft_of c.args.dialect.draft) schema) c.loop-found-test.true c.found-item.is in
    (omega arith, tt)

pub loop-found-preserved : goal.loop-found-preserved
loop-found-preserved t c =
    let schema = view c.args.schema.now in
    let items = c.deref-found-items.result.now in
    let k = c.loop-found.found-index in
    let p = c.found-item.result in
    let below = view p.schema.now in
    let d = dialect_of c.dialect_inside-dialect.result in
    let way = c.args.way.now.items in
    let path = c.args.path.now ++ flat_map path_of way in
    let longer : c.push.new.self.items ≡ way ++ p ∷ [] = c.in_ok-push.ensures.items
    ∙ ap (λ (ws : List FoundSchema). ws ++ p ∷ []) c.loop-found.invariant.0 in (
      one_back way c.visit_below.new.way.items c.pop.new.self.items p _ c.visit_below.new.way.ok.0 (c.in_ok-visit_below.ensures.way
          ∙ longer) c.pop.ensures.rest,
      λ n deep.
          let old = map visited_of c.loop-found.visited.items in
          let all : map found_of items ≡ map (found_at schema) (subschemas c.args.reading.now.rule (draft_of c.args.dialect.draft) schema) =
          ap (map found_of) c.deref-found-items.ensures.value ∙ c.in_ok-subschemas_found.ensures.found
          ∙ ap (λ (rule : Rule). map (found_at schema) (subschemas rule (draft_of c.args.dialect.draft) schema)) c.rule-rule.ensures.rule in
          let low : depth below < depth schema =
          found_lower schema items (subschemas c.args.reading.now.rule (draft_of c.args.dialect.draft) schema) k p all
          (subschemas_have c.args.reading.now.rule (draft_of c.args.dialect.draft) schema) c.loop-found-test.true c.found-item.is in
          let there : c.args.path.now ++ flat_map path_of c.push.new.self.items ≡ path ++ path_of p =
          ap (λ (ws : List FoundSchema). c.args.path.now ++ flat_map path_of ws) longer ∙ way_more c.args.path.now way p in
          let inside = c.or_base-inside.result.now in
          let based = c.or_base-inside.ensures.base ∙ ap (λ (o : Option Text). unwrap_or o c.args.base.now) c.in_ok-own.ensures.uri
          ∙ ap (λ (rule : Rule). base_inside rule c.args.base.now d.draft below) c.rule-rule.ensures.rule in
          let kept = c.in_ok-keep.ensures.kept
          ∙ ap (λ (ws : List FoundSchema). old
          ++ kept_if (speaks c.args.reading.now.rule c.args.everywhere d.draft below)
          (record { path = c.args.path.now ++ flat_map path_of ws; base = c.args.base.now; dialect = d; schema = below }))
          c.as_slice-on_way.ensures.value in
          let deeper = c.in_ok-visit_below.ensures.visited n (omega arith) in
          turned old _ _ _ _ _ (c.loop-found.invariant.1 n deep)
          (next_found (from c.args.reading.now c.args.everywhere n path c.args.base.now (dialect_of c.args.dialect)) items k p
          c.loop-found-test.true c.found-item.is)
          (goes_on c.args.reading.now c.args.everywhere n path c.args.base.now (dialect_of c.args.dialect) below
          (path_of p) d c.dialect_inside-dialect.ensures.dialect old _ _ _ inside there based (sym c.goes_into.ensures.goes
          ∙ c.if-not-goes_into.false) kept deeper),
    )

pub loop-found-preserved-then-is_plain : goal.loop-found-preserved-then-is_plain
loop-found-preserved-then-is_plain t c =
    let p = c.found-item.result in
    let old = map visited_of c.loop-found.visited.items in
    let path = c.args.path.now ++ flat_map path_of c.args.way.now.items in
    let dialect = dialect_of c.args.dialect in (
      c.loop-found.invariant.0,
      λ n deep.
          let nothing = adds_nothing c.args.reading.now c.args.everywhere n path c.args.base.now dialect (view p.schema.now) (path_of p)
          (subst (λ (rule : Rule). IsPlain rule (view p.schema.now)) c.rule-rule.ensures.rule (c.is_plain.ensures.plain c.if-is_plain.true)) in
          turned old old _ _ _ _ (c.loop-found.invariant.1 n deep)
          (next_found (from c.args.reading.now c.args.everywhere n path c.args.base.now dialect) c.deref-found-items.result.now
          c.loop-found.found-index p c.loop-found-test.true c.found-item.is)
          (passed old _ nothing),
    )

pub loop-found-preserved-then-not-goes_into : goal.loop-found-preserved-then-not-goes_into
loop-found-preserved-then-not-goes_into t c =
    let p = c.found-item.result in
    let old = map visited_of c.loop-found.visited.items in
    let path = c.args.path.now ++ flat_map path_of c.args.way.now.items in
    let dialect = dialect_of c.args.dialect in (
      c.loop-found.invariant.0,
      λ n deep.
          let nothing = leaves c.args.reading.now c.args.everywhere n path c.args.base.now dialect (view p.schema.now) (path_of p)
          (dialect_of c.dialect_inside-dialect.result) c.dialect_inside-dialect.ensures.dialect (sym c.goes_into.ensures.goes ∙ c.if-not-goes_into.true) in
          turned old old _ _ _ _ (c.loop-found.invariant.1 n deep)
          (next_found (from c.args.reading.now c.args.everywhere n path c.args.base.now dialect) c.deref-found-items.result.now
          c.loop-found.found-index p c.loop-found-test.true c.found-item.is)
          (passed old _ nothing),
    )

pub returns : goal.returns
returns t c =
    let schema = view c.args.schema.now in
    let all : map found_of c.deref-found-items.result.now
    ≡ map (found_at schema) (subschemas c.args.reading.now.rule (draft_of c.args.dialect.draft) schema) =
    ap (map found_of) c.deref-found-items.ensures.value ∙ c.in_ok-subschemas_found.ensures.found
    ∙ ap (λ (rule : Rule). map (found_at schema) (subschemas rule (draft_of c.args.dialect.draft) schema)) c.rule-rule.ensures.rule in
    record {
      way = c.loop-found.invariant.0;
      visited = finished c.args.reading.now c.args.everywhere (c.args.path.now ++ flat_map path_of c.args.way.now.items) c.args.base.now
          (dialect_of c.args.dialect) schema c.deref-found-items.result.now c.loop-found.found-index
          (map visited_of c.args.visited.now.items) (map visited_of c.loop-found.visited.items) all c.loop-found-test.false
          c.loop-found.invariant.1;
    }
