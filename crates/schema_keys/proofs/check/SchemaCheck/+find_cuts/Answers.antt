use Rattle.std.proofs.Common.{Bor, ◌≡◌, ◌∙◌, ◌+◌, ◌++◌, ◌∷◌, [], List, Vec, Global, ap, arith, rules, drop, map, subst, sym}
use Rattle.std.specs.Prelude.{Option, flat_map, option_map, unwrap_or}
use Rattle.serde_json.specs.Data.{Data, null}
use Rattle.serde_json.specs.View.{view}
use Rattle.serde_json.specs.declared.value.Value.{Value}
use Rattle.std.proofs.lemmas.List.{map-append}
use Rattle.theory_definitions.specs.Drafts as spec
use Rattle.schema_drafts.specs.KeywordViews.{draft_of}
use Rattle.theory_meaning.specs.Documents.{Cut, cuts, embedded}
use Rattle.schema_traits.specs.ResolverViews.{place_of, placed_in, placed_of}
use Rattle.schema_keys.specs.Compiling.{Each, resolving_parts}
use Rattle.schema_keys.specs.CutViews.{cut_of}
use Rattle.schema_keys.specs.declared.check.embedded.Cut as code
use Rattle.schema_keys.proofs.CheckedDocuments.{IsLower, IsRead, at_index, cut_at, cut_below, cut_here, each_read, finished, lie_at, lies_at, next_one, subschemas_lower}
use Rattle.schema_keys.proofs.Lists.{turned}
use Rattle.schema_keys.proofs.check.SchemaCheck.+find_cuts.Goals as goal
use Rattle.schema_keys.proofs.check.SchemaCheck.+find_cuts.Goals.{then-is_embedded+in_ok-place+in_ok-push, else-is_embedded+in_ok-find_cuts}

pub find_cuts-requires : goal.find_cuts-requires
find_cuts-requires g t c κs within =
    let resolver = c.args.self.now.resolver.now in
    let r = g.R.Resolver.resolving resolver in
    let draft = draft_of c.args.draft in
    let place = place_of c.args.place.now in
    let items = c.deref-below-items.result.now in
    let k = c.loop-below.below-index in
    let x = c.below-item.result in
    let placed : map placed_of items ≡ map (placed_in r) (r.subresources_of draft place) = ap (map placed_of) c.deref-below-items.ensures.value ∙ c.in_ok-subschemas_read.ensures.subschemas c.requires.read in
    let subschemas : map lies_at items ≡ r.subresources_of draft place = lie_at r items (r.subresources_of draft place) placed in
    let lower : IsLower r place (lies_at x) = at_index lies_at (IsLower r place) items k x
    (subst (Each (IsLower r place)) (sym subschemas) (subschemas_lower r (g.met.R.Resolver.inside resolver) (g.met.R.Resolver.below resolver) draft place)) c.loop-below-test.true c.below-item.is in
    let read : option_map (λ (b : Bor Value). view b.now) x.value ≡ r.value (lies_at x) = at_index placed_of (IsRead r) items k x (each_read r items (r.subresources_of draft place) placed) c.loop-below-test.true c.below-item.is in
    (omega arith, search (rules, within, read))

pub loop-below-preserved : goal.loop-below-preserved
loop-below-preserved g t c = λ n deep.
    let resolver = c.args.self.now.resolver.now in
    let r = g.R.Resolver.resolving resolver in
    let document = draft_of c.args.document in
    let draft = draft_of c.args.draft in
    let place = place_of c.args.place.now in
    let items = c.deref-below-items.result.now in
    let k = c.loop-below.below-index in
    let x = c.below-item.result in
    let old = map cut_of c.loop-below.cuts.items in
    let later = flat_map (cut_at r n document draft) (map lies_at (drop (k + 1) items)) in
    let placed : map placed_of items ≡ map (placed_in r) (r.subresources_of draft place) = ap (map placed_of) c.deref-below-items.ensures.value ∙ c.in_ok-subschemas_read.ensures.subschemas c.requires.read in
    let subschemas : map lies_at items ≡ r.subresources_of draft place = lie_at r items (r.subresources_of draft place) placed in
    let lower : IsLower r place (lies_at x) = at_index lies_at (IsLower r place) items k x
    (subst (Each (IsLower r place)) (sym subschemas) (subschemas_lower r (g.met.R.Resolver.inside resolver) (g.met.R.Resolver.below resolver) draft place)) c.loop-below-test.true c.below-item.is in
    let one_more = next_one lies_at (cut_at r n document draft) items k x c.loop-below-test.true c.below-item.is in
    let read : option_map (λ (b : Bor Value). view b.now) x.value ≡ r.value (lies_at x) = at_index placed_of (IsRead r) items k x (each_read r items (r.subresources_of draft place) placed) c.loop-below-test.true c.below-item.is in
    let own = c.own_draft-own.ensures.own ∙ ap (λ (o : Option Data). r.detect draft (unwrap_or o null)) read in
    let is_embedded = c.is_embedded.ensures.embedded ∙ ap (λ (o : Option Data). embedded (resolving_parts r) document draft (draft_of c.own_draft-own.result) (unwrap_or o null)) read in
    elim c.if-is_embedded.branch [
      | then-is_embedded+in_ok-place+in_ok-push w ↦
          let here = cut_here r n document draft (draft_of c.own_draft-own.result) (lies_at x) own (sym is_embedded ∙ w.if-is_embedded.true) in
          let pushed = ap (map cut_of) w.in_ok-push.ensures.items ∙ map-append cut_of c.loop-below.cuts.items _
          ∙ ap (λ (q : spec.SchemaPlace). old ++ record { place = q; draft = draft_of c.own_draft-own.result } ∷ []) w.in_ok-place.ensures.cases in
          turned old _ (record { place = lies_at x; draft = draft_of c.own_draft-own.result } ∷ []) _ later _ (c.loop-below.invariant n deep) (one_more ∙ ap (λ (qs : List Cut). qs ++ later) here)
          (ap (λ (v : Vec code.Cut Global). map cut_of v.items) w.cuts-is ∙ pushed)
      | else-is_embedded+in_ok-find_cuts w ↦
          let below = cut_below r n document draft (draft_of c.own_draft-own.result) (lies_at x) own (sym is_embedded ∙ w.if-is_embedded.false) in
          turned old _ (cuts (resolving_parts r) n document (draft_of c.own_draft-own.result) (lies_at x)) _ later _ (c.loop-below.invariant n deep) (one_more ∙ ap (λ (qs : List Cut). qs ++ later) below)
          (ap (λ (v : Vec code.Cut Global). map cut_of v.items) w.cuts-is ∙ w.in_ok-find_cuts.ensures.found n (omega arith))
    ]

pub returns : goal.returns
returns g t c =
    let r = g.R.Resolver.resolving c.args.self.now.resolver.now in
    let draft = draft_of c.args.draft in
    let place = place_of c.args.place.now in
    let items = c.deref-below-items.result.now in
    let k = c.loop-below.below-index in
    let old = map cut_of c.args.cuts.now.items in
    let new = map cut_of c.loop-below.cuts.items in
    let placed : map placed_of items ≡ map (placed_in r) (r.subresources_of draft place) = ap (map placed_of) c.deref-below-items.ensures.value ∙ c.in_ok-subschemas_read.ensures.subschemas c.requires.read in
    let subschemas : map lies_at items ≡ r.subresources_of draft place = lie_at r items (r.subresources_of draft place) placed in
    record { found = finished r (draft_of c.args.document) draft place items k old new subschemas c.loop-below-test.false c.loop-below.invariant }
