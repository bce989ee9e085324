-- The worked rows of dialects, by computation.
use Rattle.std.proofs.Common.{refl}
use Rattle.std.specs.Str.Lossy.{utf8_error_len, utf8_lossy, utf8_valid_len}
use Rattle.std.specs.Str.{chars, is_utf8}
use lib.Utf8.{encode}
use Rattle.percent_encoding.specs.Percent.{percent_decode}
use Rattle.serde_json.specs.Find.{unescape}
use Rattle.standard_resolver.specs.DialectRows as row

on_the_way_is_refused : row.UnknownOnTheWayIsRefused
unfolding percent_decode utf8_lossy utf8_valid_len utf8_error_len is_utf8 chars encode unescape
on_the_way_is_refused = refl

pub rows_hold : row.DialectRowsHold
rows_hold = record {
  schemes = refl;
  late_schemes = refl;
  latest = refl;
  fragment = refl;
  supplied = refl;
  followed = refl;
  absent = refl;
  unnamed = refl;
  cycle = refl;
  subschema = refl;
  resource = refl;
  root = refl;
  target = refl;
  on_the_way = on_the_way_is_refused;
  no_validation = refl;
  optional = refl;
  required = refl;
  known = refl;
  format = refl;
}
