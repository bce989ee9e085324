-- The worked rows, by computation.
use Rattle.std.proofs.Common.{refl}
use Rattle.std.specs.Str.Lossy.{utf8_error_len, utf8_lossy, utf8_valid_len}
use Rattle.std.specs.Str.{chars, is_utf8}
use lib.Utf8.{encode}
use Rattle.percent_encoding.specs.Percent.{percent_decode}
use Rattle.serde_json.specs.Find.{unescape}
use Rattle.standard_resolver.specs.DocumentRows as row

name_leads : row.NameLeads
name_leads = refl

first_name_leads : row.FirstNameLeads
first_name_leads = refl

pointer_enters : row.PointerEnters
unfolding percent_decode utf8_lossy utf8_valid_len utf8_error_len is_utf8 chars encode unescape
pointer_enters = refl

entered_begins : row.EnteredBegins
entered_begins = refl

uri_leads : row.UriLeads
unfolding percent_decode utf8_lossy utf8_valid_len utf8_error_len is_utf8 chars encode unescape
uri_leads = refl

uri_name_leads : row.UriNameLeads
uri_name_leads = refl

name_stays_inside : row.NameStaysInside
name_stays_inside = refl

relative_is_refused : row.RelativeIsRefused
unfolding percent_decode utf8_lossy utf8_valid_len utf8_error_len is_utf8 chars encode unescape
relative_is_refused = refl

second_is_refused : row.SecondIsRefused
unfolding percent_decode utf8_lossy utf8_valid_len utf8_error_len is_utf8 chars encode unescape
second_is_refused = refl

draft_on_the_way : row.DraftOnTheWay
unfolding percent_decode utf8_lossy utf8_valid_len utf8_error_len is_utf8 chars encode unescape
draft_on_the_way = refl

dynamic_leads_out : row.DynamicLeadsOut
dynamic_leads_out = refl

plain_stays_inside : row.PlainStaysInside
plain_stays_inside = refl

dynamic_stays_alone : row.DynamicStaysAlone
dynamic_stays_alone = refl

recursive_leads_out : row.RecursiveLeadsOut
recursive_leads_out = refl

recursive_stays_inside : row.RecursiveStaysInside
recursive_stays_inside = refl

other_document_is_found : row.OtherDocumentIsFound
other_document_is_found = refl

odd_escape_stands : row.OddEscapeStands
unfolding percent_decode utf8_lossy utf8_valid_len utf8_error_len is_utf8 chars encode unescape
odd_escape_stands = refl

leading_zero_is_a_name : row.LeadingZeroIsAName
unfolding percent_decode utf8_lossy utf8_valid_len utf8_error_len is_utf8 chars encode unescape
leading_zero_is_a_name = refl

leading_zero_is_no_index : row.LeadingZeroIsNoIndex
unfolding percent_decode utf8_lossy utf8_valid_len utf8_error_len is_utf8 chars encode unescape
leading_zero_is_no_index = refl

no_utf8_leads_nowhere : row.NoUtf8LeadsNowhere
unfolding percent_decode utf8_lossy utf8_valid_len utf8_error_len is_utf8 chars encode unescape
no_utf8_leads_nowhere = refl

decoded_once : row.DecodedOnce
unfolding percent_decode utf8_lossy utf8_valid_len utf8_error_len is_utf8 chars encode unescape
decoded_once = refl

pub rows_hold : row.RowsHold
rows_hold = record {
  name = name_leads;
  first_name = first_name_leads;
  enters = pointer_enters;
  begins = entered_begins;
  uri = uri_leads;
  uri_name = uri_name_leads;
  inside = name_stays_inside;
  relative_identifier = relative_is_refused;
  second_identifier = second_is_refused;
  draft = draft_on_the_way;
  draft_of_name = refl;
  dynamic = dynamic_leads_out;
  plain = plain_stays_inside;
  dynamic_alone = dynamic_stays_alone;
  recursive = recursive_leads_out;
  recursive_inside = recursive_stays_inside;
  other_document = other_document_is_found;
  other_root = refl;
  relative_reference = refl;
  unknown_uri = refl;
  empty = refl;
  hash = refl;
  base = refl;
  colon = refl;
  odd_escape = odd_escape_stands;
  leading_zero = leading_zero_is_a_name;
  no_index = leading_zero_is_no_index;
  lone_percent = refl;
  no_utf8 = no_utf8_leads_nowhere;
  once = decoded_once;
}
