use Rattle.std.proofs.Common.{Some, ap}
use Rattle.std.specs.HashMap.{get_by_text}
use Rattle.schema_traits.specs.Readings.{text_read}
use Rattle.standard_resolver.specs.Dialects.{own_key, uri_key}
use Rattle.standard_resolver.specs.DialectViews.{meta_seen}
use Rattle.standard_resolver.proofs.MetaNumbers.{numbered_next}
use Rattle.standard_resolver.proofs.dialects.reading_of.Goals as goal

pub loop-number-preserved : goal.loop-number-preserved
loop-number-preserved c =
    let items = c.deref-meta-items.result.now in
    let i = c.loop-number.number in
    let x = c.meta-item.result in (
      numbered_next uri_key meta_seen items i x c.loop-number-test.true c.meta-item.is (get_by_text c.loop-number.uris)
          (get_by_text c.add_number.new.numbers) (Some c.as_str.result.now) (ap (λ t. Some t) c.as_str.ensures.value)
          c.in_ok-add_number.ensures.added c.loop-number.invariant.0,
      numbered_next own_key meta_seen items i x c.loop-number-test.true c.meta-item.is (get_by_text c.loop-number.owns)
          (get_by_text c.add_number-in-loop-number.new.numbers) (text_read c.own_key.result) c.own_key.ensures.key
          c.in_ok-add_number-2.ensures.added c.loop-number.invariant.1,
    )
