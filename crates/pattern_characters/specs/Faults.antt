-- What a fault says: whether a text is no pattern or none that is supported, and what is wrong.
use Rattle.std.specs.Prelude.{ℕ, codes, List}
use Rattle.pattern_characters.specs.declared.faults.Fault.{Fault}
use Rattle.pattern_characters.specs.declared.faults.Fault.TheVariants.{NothingToRepeat, NumbersOutOfOrder, LoneBracket, BadEscape, NoSuchGroup, NoSuchName, OpenClass, SetInRange, RangeOutOfOrder, OpenGroup, NoGroupToClose, BadOpening, OtherOpening, BadName, SameName, BadFlags, OtherFlags, UnknownProperty, ReferenceIgnoringCase, TooDeep, TooManyGroups}
use Rattle.pattern_characters.specs.declared.faults.Kind.{Kind}
use Rattle.pattern_characters.specs.declared.faults.Kind.TheVariants.{NoPattern, NotSupported}

-- the faults of texts that may be patterns: of the standard, past a limit, or of another engine, with a spelling that is not read;
-- with any other fault a text breaks a rule of the standard (22.2.1 and 22.2.1.1)
abbrev pub kind_of : Fault → Kind
kind_of OtherOpening = NotSupported
kind_of OtherFlags = NotSupported
kind_of UnknownProperty = NotSupported
kind_of ReferenceIgnoringCase = NotSupported
kind_of TooDeep = NotSupported
kind_of TooManyGroups = NotSupported
kind_of e = NoPattern

abbrev pub kind_text : Kind → List ℕ
kind_text NoPattern = codes "no pattern"
kind_text NotSupported = codes "not supported"

abbrev pub fault_text : Fault → List ℕ
fault_text NothingToRepeat = codes "a quantifier has nothing to repeat"
fault_text NumbersOutOfOrder = codes "the numbers of a quantifier are out of order"
fault_text LoneBracket = codes "a bracket or a brace needs a backslash"
fault_text BadEscape = codes "an escape stands for nothing"
fault_text NoSuchGroup = codes "a back reference has the number of no group"
fault_text NoSuchName = codes "a back reference has the name of no group"
fault_text OpenClass = codes "a class has no closing bracket"
fault_text SetInRange = codes "a set of characters is at an end of a range"
fault_text RangeOutOfOrder = codes "the ends of a range are out of order"
fault_text OpenGroup = codes "a group has no closing bracket"
fault_text NoGroupToClose = codes "a closing bracket closes no group"
fault_text BadOpening = codes "the characters after (? begin no group"
fault_text OtherOpening = codes "the characters after (? begin a group of another engine"
fault_text BadName = codes "the name of a group is missing or has a wrong character"
fault_text SameName = codes "two groups have the same name"
fault_text BadFlags = codes "the flags of a group are missing or come twice"
fault_text OtherFlags = codes "a flag of a group is none of i, m and s"
fault_text UnknownProperty = codes "no known property of characters has this name"
fault_text ReferenceIgnoringCase = codes "a back reference ignores case"
fault_text TooDeep = codes "groups are nested too deep"
fault_text TooManyGroups = codes "there are too many groups"
