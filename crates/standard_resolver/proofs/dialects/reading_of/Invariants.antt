use Rattle.std.proofs.Common.{map, take}
use Rattle.std.specs.HashMap.{get_by_text}
use Rattle.standard_subschemas.specs.DocumentKeys.{IsNumbered}
use Rattle.standard_resolver.specs.Dialects.{own_key, uri_key}
use Rattle.standard_resolver.specs.DialectViews.{meta_seen}
use Rattle.standard_resolver.proofs.dialects.reading_of.Given as goal

abbrev pub invariant-loop-number : goal.invariant-loop-number
invariant-loop-number l = IsNumbered (map uri_key (map meta_seen (take l.number l.meta-items))) (get_by_text l.uris)
    × IsNumbered (map own_key (map meta_seen (take l.number l.meta-items))) (get_by_text l.owns)
