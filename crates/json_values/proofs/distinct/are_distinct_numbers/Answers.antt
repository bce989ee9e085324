use Rattle.std.proofs.Common.{◌≡◌, ◌⊎◌, false, length, refl, subst, true, vec_len}
use Rattle.json_values.specs.Keys.{keyed_number}
use Rattle.json_values.proofs.Keyed.{distinct_by_first, distinct_by_keys}
use Rattle.json_values.proofs.distinct.are_distinct_numbers.Goals as goal

pub returns : goal.returns
returns c =
    let keyed = c.in_ok-keyed.keyed in
    let values = c.args.values.now in
    let distinct = c.in_ok-distinct.distinct in
    record {
      distinct = distinct_by_first (vec_len keyed) values distinct
          (distinct_by_keys _ keyed_number (λ x y. refl) keyed.items _ distinct c.in_ok-keyed.ensures.numbers c.in_ok-distinct.ensures.distinct)
          (subst (λ n. ((distinct ≡ true) × (n ≡ length values)) ⊎ (distinct ≡ false)) c.len.ensures c.else-distinct.either);
    }
