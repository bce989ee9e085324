-- The worked rows of the standard's rule, by computation.
use Rattle.std.proofs.Common.{refl}
use Rattle.std.specs.Str.Lossy.{utf8_error_len, utf8_lossy, utf8_valid_len}
use Rattle.std.specs.Str.{chars, is_utf8}
use lib.Utf8.{encode}
use Rattle.percent_encoding.specs.Percent.{percent_decode}
use Rattle.serde_json.specs.Find.{unescape}
use Rattle.standard_resolver.specs.StandardRows as row

row_entrance : row.EntranceHasTheIdentifier
row_entrance = refl

row_nested : row.NestedIdentifier
row_nested = refl

row_base_change : row.BaseChanges
row_base_change = refl

row_identifier : row.RootIsFoundByIdentifier
row_identifier = refl

row_handed_in : row.RootIsFoundAsHandedIn
row_handed_in = refl

row_fragment : row.EmptyFragment
unfolding percent_decode utf8_lossy utf8_valid_len utf8_error_len is_utf8 chars encode unescape
row_fragment = refl

row_absent : row.AbsentIsRefused
row_absent = refl

row_through : row.PointerChangesTheBase
unfolding percent_decode utf8_lossy utf8_valid_len utf8_error_len is_utf8 chars encode unescape
row_through = refl

row_inner : row.InnerUriLeadsThere
unfolding percent_decode utf8_lossy utf8_valid_len utf8_error_len is_utf8 chars encode unescape
row_inner = refl

row_cased : row.CaseOfHosts
row_cased = refl

row_path_case : row.CaseOfPaths
row_path_case = refl

row_supplied : row.SuppliedUriIsRead
row_supplied = refl

row_supplied_found : row.SuppliedUriIsFound
row_supplied_found = refl

row_tree : row.TreeOfNodes
row_tree = refl

row_node : row.NodeOfATree
row_node = refl

row_early : row.DraftFourHasId
row_early = refl

row_later : row.DraftSixHasNone
row_later = refl

row_sibling : row.SiblingOfAReference
row_sibling = refl

row_sibling_base : row.SiblingKeepsTheBase
row_sibling_base = refl

row_independent : row.LocationIndependent
unfolding percent_decode utf8_lossy utf8_valid_len utf8_error_len is_utf8 chars encode unescape
row_independent = refl

row_independent_nested : row.LocationIndependentNested
unfolding percent_decode utf8_lossy utf8_valid_len utf8_error_len is_utf8 chars encode unescape
row_independent_nested = refl

row_decoded : row.NameIsDecoded
unfolding percent_decode utf8_lossy utf8_valid_len utf8_error_len is_utf8 chars encode unescape
row_decoded = refl

row_decoded_identifier : row.IdentifierIsDecoded
unfolding percent_decode utf8_lossy utf8_valid_len utf8_error_len is_utf8 chars encode unescape
row_decoded_identifier = refl

row_no_resource : row.FragmentOpensNoResource
unfolding percent_decode utf8_lossy utf8_valid_len utf8_error_len is_utf8 chars encode unescape
row_no_resource = refl

row_late_fragment : row.LateFragmentIsNoName
unfolding percent_decode utf8_lossy utf8_valid_len utf8_error_len is_utf8 chars encode unescape
row_late_fragment = refl

row_both : row.FragmentAndUri
unfolding percent_decode utf8_lossy utf8_valid_len utf8_error_len is_utf8 chars encode unescape
row_both = refl

row_anchor : row.AnchorIsAName
unfolding percent_decode utf8_lossy utf8_valid_len utf8_error_len is_utf8 chars encode unescape
row_anchor = refl

row_early_anchor : row.EarlyAnchorIsNone
unfolding percent_decode utf8_lossy utf8_valid_len utf8_error_len is_utf8 chars encode unescape
row_early_anchor = refl

row_dynamic : row.DynamicAnchorIsAName
unfolding percent_decode utf8_lossy utf8_valid_len utf8_error_len is_utf8 chars encode unescape
row_dynamic = refl

row_early_dynamic : row.EarlyDynamicAnchorIsNone
unfolding percent_decode utf8_lossy utf8_valid_len utf8_error_len is_utf8 chars encode unescape
row_early_dynamic = refl

row_enumerated : row.EnumHasNoSchemas
row_enumerated = refl

row_unknown : row.UnknownHasNoSchemas
row_unknown = refl

row_pointer : row.PointersLeadAnywhere
unfolding percent_decode utf8_lossy utf8_valid_len utf8_error_len is_utf8 chars encode unescape
row_pointer = refl

row_odd_escape : row.OddEscapeIsNone
unfolding percent_decode utf8_lossy utf8_valid_len utf8_error_len is_utf8 chars encode unescape
row_odd_escape = refl

row_escape : row.EscapeIsOne
unfolding percent_decode utf8_lossy utf8_valid_len utf8_error_len is_utf8 chars encode unescape
row_escape = refl

row_lists : row.ListsOfItems
row_lists = refl

row_one_schema : row.ItemsIsOneSchema
row_one_schema = refl

row_no_if : row.DraftSixHasNoIf
row_no_if = refl

row_has_if : row.DraftSevenHasIf
row_has_if = refl

row_content : row.LateHasContentSchema
row_content = refl

row_known : row.KeywordsAreKnown
row_known = refl

pub rows_hold : row.StandardRowsHold
rows_hold = record {
  entrance = row_entrance;
  nested = row_nested;
  base_change = row_base_change;
  identifier = row_identifier;
  handed_in = row_handed_in;
  fragment = row_fragment;
  absent = row_absent;
  through = row_through;
  inner = row_inner;
  cased = row_cased;
  path_case = row_path_case;
  supplied = row_supplied;
  supplied_found = row_supplied_found;
  tree = row_tree;
  node = row_node;
  early = row_early;
  later = row_later;
  sibling = row_sibling;
  sibling_base = row_sibling_base;
  independent = row_independent;
  independent_nested = row_independent_nested;
  decoded = row_decoded;
  decoded_identifier = row_decoded_identifier;
  no_resource = row_no_resource;
  late_fragment = row_late_fragment;
  both = row_both;
  anchor = row_anchor;
  early_anchor = row_early_anchor;
  dynamic = row_dynamic;
  early_dynamic = row_early_dynamic;
  enumerated = row_enumerated;
  unknown = row_unknown;
  pointer = row_pointer;
  odd_escape = row_odd_escape;
  escape = row_escape;
  lists = row_lists;
  one_schema = row_one_schema;
  no_if = row_no_if;
  has_if = row_has_if;
  content = row_content;
  known = row_known;
}
