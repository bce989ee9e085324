use Rattle.std.proofs.Common.{◌≡◌, ◌∙◌, ap, bytes_eq, drop, false, map, sym, true}
use Rattle.std.specs.Cmp.Lexicographic.{slice_cmp}
use Rattle.std.specs.Ordering.{is_lt, nat_cmp}
use Rattle.std.specs.Rc.{rc_str_bytes}
use Rattle.schema_traits.specs.Ascending.{place_from}
use Rattle.schema_traits.proofs.NamesAscend.{found_there, goes_on, passed_there}
use Rattle.schema_traits.proofs.ascending.AscendingNames.place_from.Goals as goal

pub returns-then-eq-clause-place : goal.returns-then-eq-clause-place
returns-then-eq-clause-place c =
    let k = c.args.name.now in
    let names = c.as_slice-names.result.now in
    let same : map rc_str_bytes names ≡ c.args.self.now = ap (map rc_str_bytes) c.as_slice-names.ensures.value ∙ c.self.view_is in
    let is : bytes_eq (rc_str_bytes c.index-names-place.result) k ≡ true = ap (λ t. bytes_eq t k) (sym c.as_str-other.ensures.value) ∙ sym c.eq.ensures ∙ c.if-eq.true in
    sym (found_there rc_str_bytes k names c.loop-place.place c.index-names-place.result c.loop-place-test.true c.index-names-place.is is)
    ∙ sym c.loop-place.invariant
    ∙ ap (λ ns. place_from k c.args.from (drop c.args.from ns)) same

pub returns-then-lt-clause-place : goal.returns-then-lt-clause-place
returns-then-lt-clause-place c =
    let k = c.args.name.now in
    let names = c.as_slice-names.result.now in
    let same : map rc_str_bytes names ≡ c.args.self.now = ap (map rc_str_bytes) c.as_slice-names.ensures.value ∙ c.self.view_is in
    let is : bytes_eq (rc_str_bytes c.index-names-place.result) k ≡ false = ap (λ t. bytes_eq t k) (sym c.as_str-other.ensures.value) ∙ sym c.eq.ensures ∙ c.if-eq.false in
    let less : is_lt (slice_cmp nat_cmp k (rc_str_bytes c.index-names-place.result)) ≡ true = ap (λ t. is_lt (slice_cmp nat_cmp k t)) (sym c.as_str-other.ensures.value) ∙ sym c.lt.ensures ∙ c.if-lt.true in
    sym (passed_there rc_str_bytes k names c.loop-place.place c.index-names-place.result c.loop-place-test.true c.index-names-place.is is less)
    ∙ sym c.loop-place.invariant
    ∙ ap (λ ns. place_from k c.args.from (drop c.args.from ns)) same

pub loop-place-preserved : goal.loop-place-preserved
loop-place-preserved c =
    let k = c.args.name.now in
    let names = c.as_slice-names.result.now in
    let is : bytes_eq (rc_str_bytes c.index-names-place.result) k ≡ false = ap (λ t. bytes_eq t k) (sym c.as_str-other.ensures.value) ∙ sym c.eq.ensures ∙ c.if-eq.false in
    let less : is_lt (slice_cmp nat_cmp k (rc_str_bytes c.index-names-place.result)) ≡ false = ap (λ t. is_lt (slice_cmp nat_cmp k t)) (sym c.as_str-other.ensures.value) ∙ sym c.lt.ensures ∙ c.if-lt.false in
    c.loop-place.invariant
    ∙ goes_on rc_str_bytes k names c.loop-place.place c.index-names-place.result c.loop-place-test.true c.index-names-place.is is less
