use Rattle.std.proofs.Common.{◌≡◌, ◌∙◌, ◌+◌, ◌-◌, ◌<◌, ◌++◌, ℕ, List, ap, ap₂, arith, length, length-append, subst, sym}
use Rattle.std.specs.Prelude.{slice_range, slice_set}
use Rattle.schema_places.specs.Rows.{Laid, Walks, members_below, laid, last_in, numbers_from}
use Rattle.schema_places.specs.RowViews.{last_at}
use Rattle.schema_places.specs.declared.rows.Below.TheVariants as below
use Rattle.schema_places.specs.declared.rows.Row.{Row}
use Rattle.schema_places.proofs.Tables.{numbers_found, put_within, range_added, row_put, rows_length, small_more, walks_found}
use Rattle.schema_places.proofs.rows.Table.put_members.Goals as goal

pub push_numbers-requires-clause-walk : goal.push_numbers-requires-clause-walk
push_numbers-requires-clause-walk c =
    let t = c.self.inside in
    let known = subst (λ (xs : List Laid). Walks (last_in xs) (length xs) 1 (c.args.place + 1) c.args.count) (sym c.self.view_is) c.requires.walk in
    subst (λ (xs : List Row). Walks (last_at xs) (length xs) 1 (c.args.place + 1) c.args.count) (sym c.as_slice.ensures.value)
    (walks_found t.numbers.items t.rows.items 1 (c.args.place + 1) c.args.count known)

pub invariant_of-self-2 : goal.invariant_of-self-2
invariant_of-self-2 c =
    let t = c.self.inside in
    let bs = t.numbers.items in
    let rs = t.rows.items in
    let all = c.push_numbers.new.numbers.items in
    let first = c.args.place + 1 in
    let cs = numbers_from (last_at rs) 1 first c.args.count in
    let grown : all ≡ bs ++ cs = c.in_ok-push_numbers.ensures.pushed ∙ ap (λ (xs : List Row). bs ++ numbers_from (last_at xs) 1 first c.args.count) c.as_slice.ensures.value in
    let known = subst (λ (xs : List Laid). Walks (last_in xs) (length xs) 1 first c.args.count) (sym c.self.view_is) c.requires.walk in
    let size = ap length grown ∙ length-append bs cs in
    let from : c.len-first_name.result ≡ length bs = omega (arith, c.len-first_name.ensures, t.numbers.ok.0) in
    let to : c.len.result ≡ length all = omega (arith, c.len.ensures, c.push_numbers.new.numbers.ok.0) in
    let few : length rs < 9223372036854775808 = omega (arith, t.rows.ok.0, t.rows.ok.1, t.rows.small) in record {
      within = put_within bs cs all rs c.args.place _ c.self.invariant.within grown (omega (arith, from, to, size), omega (arith, to));
      small = small_more (last_at rs) (length rs) 1 first c.args.count bs all few (walks_found bs rs 1 first c.args.count known) grown c.self.invariant.small;
    }

pub returns : goal.returns
returns c =
    let t = c.self.inside in
    let bs = t.numbers.items in
    let rs = t.rows.items in
    let all = c.push_numbers.new.numbers.items in
    let first = c.args.place + 1 in
    let cs = numbers_from (last_at rs) 1 first c.args.count in
    let grown : all ≡ bs ++ cs = c.in_ok-push_numbers.ensures.pushed ∙ ap (λ (xs : List Row). bs ++ numbers_from (last_at xs) 1 first c.args.count) c.as_slice.ensures.value in
    let size = ap length grown ∙ length-append bs cs in
    let from : c.len-first_name.result ≡ length bs = omega (arith, c.len-first_name.ensures, t.numbers.ok.0) in
    let to : c.len.result ≡ length bs + length cs = omega (arith, c.len.ensures, c.push_numbers.new.numbers.ok.0, size) in
    let range = ap (λ (xs : List ℕ). slice_range xs c.len-first_name.result c.len.result) grown ∙ range_added bs cs c.len-first_name.result c.len.result from to in
    let seen = ap (λ (xs : List Laid). length xs) c.self.view_is in
    let last : c.len-last.result - 1 ≡ length c.args.self.now - 1 = omega (arith, c.len-last.ensures, t.rows.ok.0, rows_length bs rs, seen) in
    let told = numbers_found bs rs 1 first c.args.count ∙ ap (λ (xs : List Laid). numbers_from (last_in xs) 1 first c.args.count) c.self.view_is in
    record {
      put = row_put bs cs all rs c.args.place (c.len-last.result - 1) (below.Members c.len-first_name.result c.len.result) (members_below cs) c.self.invariant.within grown (ap members_below range)
          ∙ ap₂ (λ (n : ℕ) (xs : List Laid). slice_set xs c.args.place (laid n (members_below cs))) last c.self.view_is
          ∙ ap (λ (ks : List ℕ). slice_set c.args.self.now c.args.place (laid (length c.args.self.now - 1) (members_below ks))) told;
    }
