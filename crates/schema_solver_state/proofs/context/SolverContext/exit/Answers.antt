use Rattle.std.proofs.Common.{◌≡◌, ◌∙◌, ◌==◌, ◌*◌, ◌+◌, ◌-◌, ◌<◌, ◌++◌, ◌∷◌, [], ℕ, false, arith, get_or, inl, length, length-set, refl, subst, sym, ⊎_elim}
use Rattle.std.specs.Prelude.{slice_set}
use Rattle.theory_definitions.specs.Instance.{Place}
use Rattle.schema_places.specs.Numbers.{OwnNumbers, place_at}
use Rattle.schema_run_context.specs.ProgressViews.{Guards}
use Rattle.schema_run_context.specs.Progress.{Distinct, EndsWith, Pairs, root_places, row_words}
use Rattle.schema_run_context.specs.Rows.{PutsBit}
use Rattle.schema_run_context.proofs.Entering.{at_its_own_less, count_put, last_count, last_row, whatever_else}
use Rattle.schema_run_context.proofs.Guarding.{guards_less}
use Rattle.schema_run_context.proofs.Pairs.{distinct_front, nil_snoc}
use Rattle.schema_solver_state.specs.Contexts.{Solver, solver_places}
use Rattle.schema_solver_state.specs.ContextViews.{pairs_at}
use Rattle.schema_run_context.proofs.Entering.{popped}
use Rattle.schema_solver_state.proofs.context.SolverContext.exit.Goals as goal

pub put_bit-requires : goal.put_bit-requires
put_bit-requires c =
    let i = c.self.inside in
    let ps = root_places i.places in
    let es = pairs_at ps i.pairs.items in
    let h = c.self.invariant.progress in
    let known = subst (λ (x : Solver). c.args.place < length (solver_places x)) (sym c.self.view_is) c.requires.known in
    let last = subst (λ (x : Solver). EndsWith c.args.node.0 (place_at (solver_places x) c.args.place) x.in_progress) (sym c.self.view_is) c.requires.last in
    record { there = last_row ps (row_words (length ps)) es last.0 i.counts.items i.guard c.args.node.0 c.args.place h.guards refl h.wide_guard known last.1 }

pub index-count-requires : goal.index-count-requires
index-count-requires c =
    let i = c.self.inside in
    let ps = root_places i.places in
    let es = pairs_at ps i.pairs.items in
    let known = subst (λ (x : Solver). c.args.place < length (solver_places x)) (sym c.self.view_is) c.requires.known in
    let last = subst (λ (x : Solver). EndsWith c.args.node.0 (place_at (solver_places x) c.args.place) x.in_progress) (sym c.self.view_is) c.requires.last in
    let count = last_count ps es last.0 i.counts.items i.guard c.args.node.0 c.args.place c.self.invariant.progress.guards known last.1 in
    omega (arith, count.1, i.counts.ok.0)

pub overflow_sub-count : goal.overflow_sub-count
overflow_sub-count c =
    let i = c.self.inside in
    let ps = root_places i.places in
    let es = pairs_at ps i.pairs.items in
    let known = subst (λ (x : Solver). c.args.place < length (solver_places x)) (sym c.self.view_is) c.requires.known in
    let last = subst (λ (x : Solver). EndsWith c.args.node.0 (place_at (solver_places x) c.args.place) x.in_progress) (sym c.self.view_is) c.requires.last in
    let count = last_count ps es last.0 i.counts.items i.guard c.args.node.0 c.args.place c.self.invariant.progress.guards known last.1 in
    let read : c.index-count.result.now ≡ get_or i.counts.items c.args.place 0 = c.index-count.ensures ∙ whatever_else i.counts.items c.args.place c.index-count.result.now 0 count.1 in
    omega (arith, count.0, read)

pub index_mut-requires : goal.index_mut-requires
index_mut-requires c =
    let i = c.self.inside in
    let ps = root_places i.places in
    let es = pairs_at ps i.pairs.items in
    let known = subst (λ (x : Solver). c.args.place < length (solver_places x)) (sym c.self.view_is) c.requires.known in
    let last = subst (λ (x : Solver). EndsWith c.args.node.0 (place_at (solver_places x) c.args.place) x.in_progress) (sym c.self.view_is) c.requires.last in
    let count = last_count ps es last.0 i.counts.items i.guard c.args.node.0 c.args.place c.self.invariant.progress.guards known last.1 in
    omega (arith, count.1, i.counts.ok.0)

pub invariant_of-self : goal.invariant_of-self
invariant_of-self c =
    let i = c.self.inside in
    let n = c.args.node.0 in
    let k = c.args.place in
    let ps = root_places i.places in
    let es = pairs_at ps i.pairs.items in
    let left = pairs_at ps c.pop.new.self.items in
    let x : ℕ × Place = (n, place_at ps k) in
    let h = c.self.invariant.progress in
    let known = subst (λ (x : Solver). k < length (solver_places x)) (sym c.self.view_is) c.requires.known in
    let last = subst (λ (x : Solver). EndsWith n (place_at (solver_places x) k) x.in_progress) (sym c.self.view_is) c.requires.last in
    let all : es ≡ left ++ x ∷ [] = popped ps i.pairs.items c.pop.new.self.items c.pop.result x last.0 c.pop.ensures.items (λ q. let k = rw q at c.pop.ensures.cases in omega (arith, k.1, c.pop.new.self.ok.0)) last.1 in
    let count = last_count ps es last.0 i.counts.items i.guard n k h.guards known last.1 in
    let r = c.index-count.result.now in
    let read : r ≡ get_or i.counts.items k 0 = c.index-count.ensures ∙ whatever_else i.counts.items k r 0 count.1 in
    let here : 64 * 0 + k ≡ k = omega arith in
    let put = subst (λ b. PutsBit n b false i.guard c.put_bit.new.self) here c.put_bit.ensures.put in
    let distinct = subst Distinct all h.distinct in
    let own : OwnNumbers ps = ⊎_elim (λ (a : OwnNumbers ps). a) (λ (r : (es ≡ []) × (i.known ≡ [])). absurd (nil_snoc last.0 x (sym r.0 ∙ last.1))) h.numbered in
    record {
      progress = record {
        numbered = inl own;
        distinct = distinct_front left x distinct;
        guards = guards_less ps left i.counts.items (slice_set i.counts.items k (r - 1)) i.guard c.put_bit.new.self n k own known distinct (subst (λ (xs : Pairs). Guards ps xs i.counts.items i.guard) all h.guards) put
            (length-set i.counts.items k (r - 1)) (λ j. count_put i.counts.items k j (r - 1) count.1 ∙ at_its_own_less (k == j) k j r (get_or i.counts.items j 0) (λ m. get_or i.counts.items m 0) refl read);
        wide_guard = put.wide (row_words (length ps)) h.wide_guard;
        wide_known = h.wide_known;
      };
      assumes = c.self.invariant.assumes;
    }
