use Rattle.std.proofs.Common.{◌≡◌, ◌∙◌, List, ap, arith, map, rules, suc, subst, sym}
use Rattle.std.proofs.lemmas.Result.{err_from_is_err_and}
use Rattle.schema_drafts.specs.KeywordViews.{draft_of}
use Rattle.schema_traits.specs.ResolverViews.{place_of}
use Rattle.schema_keys.specs.Compiling.{Each, resolving_parts}
use Rattle.schema_keys.specs.Checking.{EachAccepted, own_document}
use Rattle.schema_keys.specs.CutViews.{cut_of}
use Rattle.schema_keys.specs.declared.check.embedded.Cut as code
use Rattle.schema_keys.proofs.CheckedDocuments.{IsLowerCut, accepted_all, accepted_next, at_index, cuts_lower, cuts_of, follows_next, height, refused_inside, refused_itself}
use Rattle.schema_keys.proofs.check.SchemaCheck.+check_documents.Goals as goal

pub returns-in_err-check_document-clause-refused :
    goal.returns-in_err-check_document-clause-refused
returns-in_err-check_document-clause-refused g t c =
    let r = g.R.Resolver.resolving c.args.self.now.resolver.now in
    let refuses = g.V.MetaValidators.checked c.args.self.now.metas.now in
    let p = err_from_is_err_and c.from_residual-in_err-check_document.result c.from_residual-in_err-check_document.ensures.1 in
    let are = ap (map cut_of) c.as_slice.ensures.value ∙ c.in_ok-cuts.ensures.cuts in
    rw (p.1, p.2) (refused_itself r refuses (place_of c.args.self.now.root.now) (place_of c.args.place.now) (draft_of c.args.draft) _ _ are c.in_err-check_document.ensures.refused)

pub check_documents-requires : goal.check_documents-requires
check_documents-requires g t c κs within =
    let resolver = c.args.self.now.resolver.now in
    let r = g.R.Resolver.resolving resolver in
    let draft = draft_of c.args.draft in
    let place = place_of c.args.place.now in
    let items = c.deref-cut-items.result.now in
    let x = c.cut-item.result in
    let are : map cut_of items ≡ cuts_of r draft place = ap (map cut_of) c.deref-cut-items.ensures.value ∙ c.in_ok-cuts.ensures.cuts in
    let lower : IsLowerCut r place (cut_of x) = at_index cut_of (IsLowerCut r place) items c.loop-cut.cut-index x
    (subst (Each (IsLowerCut r place)) (sym are) (cuts_lower r (g.met.R.Resolver.inside resolver) (g.met.R.Resolver.below resolver) (suc (height r place)) draft draft place)) c.loop-cut-test.true c.cut-item.is in
    (omega arith, search (rules, within))

pub returns-in_err-check_documents-clause-refused :
    goal.returns-in_err-check_documents-clause-refused
returns-in_err-check_documents-clause-refused g t c =
    let resolver = c.args.self.now.resolver.now in
    let r = g.R.Resolver.resolving resolver in
    let refuses = g.V.MetaValidators.checked c.args.self.now.metas.now in
    let draft = draft_of c.args.draft in
    let place = place_of c.args.place.now in
    let items = c.deref-cut-items.result.now in
    let x = c.cut-item.result in
    let are : map cut_of items ≡ cuts_of r draft place = ap (map cut_of) c.deref-cut-items.ensures.value ∙ c.in_ok-cuts.ensures.cuts in
    let lower : IsLowerCut r place (cut_of x) = at_index cut_of (IsLowerCut r place) items c.loop-cut.cut-index x
    (subst (Each (IsLowerCut r place)) (sym are) (cuts_lower r (g.met.R.Resolver.inside resolver) (g.met.R.Resolver.below resolver) (suc (height r place)) draft draft place)) c.loop-cut-test.true c.cut-item.is in
    let one_list = c.as_slice.ensures.value ∙ sym c.deref-cut-items.ensures.value in
    let itself = subst (λ (xs : List code.Cut). EachAccepted (resolving_parts r) refuses (own_document (resolving_parts r) (map cut_of xs) draft place)) one_list c.in_ok-check_document.ensures.accepted in
    let p = err_from_is_err_and c.from_residual-in_err-check_documents.result c.from_residual-in_err-check_documents.ensures.1 in
    rw (p.1, p.2) (refused_inside r refuses (place_of c.args.self.now.root.now) place draft items c.loop-cut.cut-index x _ are c.loop-cut-test.true c.cut-item.is
    lower itself c.loop-cut.invariant.follows c.in_err-check_documents.ensures.refused)

pub loop-cut-preserved : goal.loop-cut-preserved
loop-cut-preserved g t c =
    let resolver = c.args.self.now.resolver.now in
    let r = g.R.Resolver.resolving resolver in
    let refuses = g.V.MetaValidators.checked c.args.self.now.metas.now in
    let draft = draft_of c.args.draft in
    let place = place_of c.args.place.now in
    let items = c.deref-cut-items.result.now in
    let x = c.cut-item.result in
    let are : map cut_of items ≡ cuts_of r draft place = ap (map cut_of) c.deref-cut-items.ensures.value ∙ c.in_ok-cuts.ensures.cuts in
    let lower : IsLowerCut r place (cut_of x) = at_index cut_of (IsLowerCut r place) items c.loop-cut.cut-index x
    (subst (Each (IsLowerCut r place)) (sym are) (cuts_lower r (g.met.R.Resolver.inside resolver) (g.met.R.Resolver.below resolver) (suc (height r place)) draft draft place)) c.loop-cut-test.true c.cut-item.is in
    record {
      accepted = accepted_next r refuses place items c.loop-cut.cut-index x c.loop-cut-test.true c.cut-item.is lower c.in_ok-check_documents.ensures.accepted c.loop-cut.invariant.accepted;
      follows = follows_next r refuses place items c.loop-cut.cut-index x c.loop-cut-test.true c.cut-item.is lower c.in_ok-check_documents.ensures.accepted c.loop-cut.invariant.follows;
    }

pub returns-clause-accepted : goal.returns-clause-accepted
returns-clause-accepted g t c =
    let r = g.R.Resolver.resolving c.args.self.now.resolver.now in
    let refuses = g.V.MetaValidators.checked c.args.self.now.metas.now in
    let draft = draft_of c.args.draft in
    let place = place_of c.args.place.now in
    let items = c.deref-cut-items.result.now in
    let are : map cut_of items ≡ cuts_of r draft place = ap (map cut_of) c.deref-cut-items.ensures.value ∙ c.in_ok-cuts.ensures.cuts in
    let one_list = c.as_slice.ensures.value ∙ sym c.deref-cut-items.ensures.value in
    let own = subst (λ (xs : List code.Cut). EachAccepted (resolving_parts r) refuses (own_document (resolving_parts r) (map cut_of xs) draft place)) one_list c.in_ok-check_document.ensures.accepted in
    accepted_all r refuses draft place items c.loop-cut.cut-index are c.loop-cut-test.false own c.loop-cut.invariant.accepted
