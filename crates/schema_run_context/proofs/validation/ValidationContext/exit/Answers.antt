use Rattle.std.proofs.Common.{◌≡◌, ◌∙◌, ◌==◌, ◌*◌, ◌+◌, ◌-◌, ◌<◌, ◌++◌, ◌∷◌, [], ℕ, false, ap, arith, get_or, inl, length, length-set, map, refl, subst, sym, ⊎_elim}
use Rattle.std.specs.Prelude.{slice_set}
use Rattle.theory_definitions.specs.Instance.{Place}
use Rattle.schema_places.specs.Numbers.{OwnNumbers, place_at}
use Rattle.schema_run_context.specs.ProgressViews.{Guards, pair_of}
use Rattle.schema_run_context.specs.Progress.{Context, Distinct, EndsWith, Pairs, row_words}
use Rattle.schema_run_context.specs.Rows.{PutsBit, words_in}
use Rattle.schema_run_context.proofs.Entering.{at_its_own_less, count_put, last_count, last_row, popped, whatever_else}
use Rattle.schema_run_context.proofs.Guarding.{guards_less}
use Rattle.schema_run_context.proofs.Pairs.{distinct_front, nil_snoc}
use Rattle.schema_run_context.proofs.Widths.{words_same}
use Rattle.schema_run_context.specs.Progress.{places_in, root_places}
use Rattle.schema_run_context.proofs.validation.ValidationContext.exit.Goals as goal

pub put_bit-requires : goal.put_bit-requires
put_bit-requires c =
    let i = c.self.inside in
    let ps = root_places i.places in
    let es = map (pair_of ps) i.pairs.items in
    let known = subst (λ (x : Context). c.args.place < length (places_in x)) (sym c.self.view_is) c.requires.known in
    let last = subst (λ (x : Context). EndsWith c.args.node.0 (place_at (places_in x) c.args.place) x.in_progress) (sym c.self.view_is) c.requires.last in
    record { there = last_row ps (row_words (length ps)) es last.0 i.counts.items i.guard c.args.node.0 c.args.place c.self.invariant.guards refl c.self.invariant.wide_guard known last.1 }

pub index-count-requires : goal.index-count-requires
index-count-requires c =
    let i = c.self.inside in
    let ps = root_places i.places in
    let es = map (pair_of ps) i.pairs.items in
    let known = subst (λ (x : Context). c.args.place < length (places_in x)) (sym c.self.view_is) c.requires.known in
    let last = subst (λ (x : Context). EndsWith c.args.node.0 (place_at (places_in x) c.args.place) x.in_progress) (sym c.self.view_is) c.requires.last in
    let count = last_count ps es last.0 i.counts.items i.guard c.args.node.0 c.args.place c.self.invariant.guards known last.1 in
    omega (arith, count.1, i.counts.ok.0)

pub overflow_sub-count : goal.overflow_sub-count
overflow_sub-count c =
    let i = c.self.inside in
    let ps = root_places i.places in
    let es = map (pair_of ps) i.pairs.items in
    let known = subst (λ (x : Context). c.args.place < length (places_in x)) (sym c.self.view_is) c.requires.known in
    let last = subst (λ (x : Context). EndsWith c.args.node.0 (place_at (places_in x) c.args.place) x.in_progress) (sym c.self.view_is) c.requires.last in
    let count = last_count ps es last.0 i.counts.items i.guard c.args.node.0 c.args.place c.self.invariant.guards known last.1 in
    let read : c.index-count.result.now ≡ get_or i.counts.items c.args.place 0 = c.index-count.ensures ∙ whatever_else i.counts.items c.args.place c.index-count.result.now 0 count.1 in
    omega (arith, count.0, read)

pub index_mut-requires : goal.index_mut-requires
index_mut-requires c =
    let i = c.self.inside in
    let ps = root_places i.places in
    let es = map (pair_of ps) i.pairs.items in
    let known = subst (λ (x : Context). c.args.place < length (places_in x)) (sym c.self.view_is) c.requires.known in
    let last = subst (λ (x : Context). EndsWith c.args.node.0 (place_at (places_in x) c.args.place) x.in_progress) (sym c.self.view_is) c.requires.last in
    let count = last_count ps es last.0 i.counts.items i.guard c.args.node.0 c.args.place c.self.invariant.guards known last.1 in
    omega (arith, count.1, i.counts.ok.0)

pub invariant_of-self : goal.invariant_of-self
invariant_of-self c =
    let i = c.self.inside in
    let n = c.args.node.0 in
    let k = c.args.place in
    let ps = root_places i.places in
    let es = map (pair_of ps) i.pairs.items in
    let left = map (pair_of ps) c.pop.new.self.items in
    let x : ℕ × Place = (n, place_at ps k) in
    let h = c.self.invariant in
    let known = subst (λ (x : Context). k < length (places_in x)) (sym c.self.view_is) c.requires.known in
    let last = subst (λ (x : Context). EndsWith n (place_at (places_in x) k) x.in_progress) (sym c.self.view_is) c.requires.last in
    let all : es ≡ left ++ x ∷ [] = popped ps i.pairs.items c.pop.new.self.items c.pop.result x last.0 c.pop.ensures.items (λ q. let k = rw q at c.pop.ensures.cases in omega (arith, k.1, c.pop.new.self.ok.0)) last.1 in
    let count = last_count ps es last.0 i.counts.items i.guard n k h.guards known last.1 in
    let read : c.index-count.result.now ≡ get_or i.counts.items k 0 = c.index-count.ensures ∙ whatever_else i.counts.items k c.index-count.result.now 0 count.1 in
    let here : 64 * 0 + k ≡ k = omega arith in
    let put = subst (λ b. PutsBit n b false i.guard c.put_bit.new.self) here c.put_bit.ensures.put in
    let distinct = subst Distinct all h.distinct in
    let own : OwnNumbers ps = ⊎_elim (λ (a : OwnNumbers ps). a) (λ (r : (es ≡ []) × (i.known ≡ [])). absurd (nil_snoc last.0 x (sym r.0 ∙ last.1))) h.numbered in
    record {
      numbered = inl own;
      distinct = distinct_front left x distinct;
      guards = guards_less ps left i.counts.items (slice_set i.counts.items k (c.index-count.result.now - 1)) i.guard c.put_bit.new.self n k own known distinct (subst (λ (xs : Pairs). Guards ps xs i.counts.items i.guard) all h.guards) put
          (length-set i.counts.items k (c.index-count.result.now - 1)) (λ j. count_put i.counts.items k j (c.index-count.result.now - 1) count.1 ∙ at_its_own_less (k == j) k j c.index-count.result.now (get_or i.counts.items j 0) (λ m. get_or i.counts.items m 0) refl read);
      wide_guard = put.wide (row_words (length ps)) h.wide_guard;
      wide_known = h.wide_known;
    }

pub returns-clause-words : goal.returns-clause-words
returns-clause-words c =
    let i = c.self.inside in
    let h = c.self.invariant in
    let w = row_words (length (root_places i.places)) in
    let put = c.put_bit.ensures.put in
    subst (λ (x : Context). words_in c.put_bit.new.self + words_in i.known ≡ x.words) c.self.view_is
    (ap (λ (n : ℕ). n + words_in i.known) (words_same w i.guard c.put_bit.new.self h.wide_guard (put.wide w h.wide_guard) put.numbers))
