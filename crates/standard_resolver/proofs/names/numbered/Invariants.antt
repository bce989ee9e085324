use Rattle.std.proofs.Common.{map, take}
use Rattle.std.specs.HashMap.{get_by_text}
use Rattle.standard_subschemas.specs.DocumentKeys.{IsNumbered}
use Rattle.standard_resolver.specs.DocumentResources.{dynamic_key, name_key}
use Rattle.standard_resolver.specs.DocumentNameViews.{name_of}
use Rattle.standard_resolver.proofs.names.numbered.Given as goal

abbrev pub invariant-loop-number : goal.invariant-loop-number
invariant-loop-number l = IsNumbered (map name_key (map name_of (take l.number l.name-items))) (get_by_text l.numbers)
    × IsNumbered (map dynamic_key (map name_of (take l.number l.name-items))) (get_by_text l.dynamic_numbers)
