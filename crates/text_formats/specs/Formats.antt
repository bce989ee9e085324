-- The formats that are checked by their grammar, each with its name and the texts that have it.
-- (JSON Schema Validation, draft 2020-12, section 7.3)
use Rattle.std.specs.Prelude.{Bool, None, Option, Some, bytes_eq, codes, if◌then◌else◌}
use Rattle.text_formats.specs.Addresses.{is_ipv4, is_ipv6}
use Rattle.text_formats.specs.Characters.{Text}
use Rattle.text_formats.specs.Dates.{is_date, is_date_time, is_time}
use Rattle.text_formats.specs.Durations.{is_duration}
use Rattle.text_formats.specs.Emails.{is_email, is_idn_email}
use Rattle.text_formats.specs.Hostnames.{is_hostname}
use Rattle.text_formats.specs.Iris.{is_iri, is_iri_reference}
use Rattle.text_formats.specs.Pointers.{is_pointer, is_relative_pointer}
use Rattle.text_formats.specs.Templates.{is_template}
use Rattle.text_formats.specs.Uris.{is_uri, is_uri_reference}
use Rattle.text_formats.specs.Uuids.{is_uuid}
use Rattle.text_formats.specs.declared.formats.Format.{Format}
use Rattle.text_formats.specs.declared.formats.Format.TheVariants.{Date, DateTime, Duration, Email, Hostname, IdnEmail, Ipv4, Ipv6, Iri, IriReference, JsonPointer, RelativeJsonPointer, Time, Uri, UriReference, UriTemplate, Uuid}

-- whether a text has the format
abbrev pub accepts : Format → Text → Bool
accepts Date t = is_date t
accepts DateTime t = is_date_time t
accepts Duration t = is_duration t
accepts Email t = is_email t
accepts Hostname t = is_hostname t
accepts IdnEmail t = is_idn_email t
accepts Ipv4 t = is_ipv4 t
accepts Ipv6 t = is_ipv6 t
accepts Iri t = is_iri t
accepts IriReference t = is_iri_reference t
accepts JsonPointer t = is_pointer t
accepts RelativeJsonPointer t = is_relative_pointer t
accepts Time t = is_time t
accepts Uri t = is_uri t
accepts UriReference t = is_uri_reference t
accepts UriTemplate t = is_template t
accepts Uuid t = is_uuid t

abbrev pub name_of : Format → Text
name_of Date = codes "date"
name_of DateTime = codes "date-time"
name_of Duration = codes "duration"
name_of Email = codes "email"
name_of Hostname = codes "hostname"
name_of IdnEmail = codes "idn-email"
name_of Ipv4 = codes "ipv4"
name_of Ipv6 = codes "ipv6"
name_of Iri = codes "iri"
name_of IriReference = codes "iri-reference"
name_of JsonPointer = codes "json-pointer"
name_of RelativeJsonPointer = codes "relative-json-pointer"
name_of Time = codes "time"
name_of Uri = codes "uri"
name_of UriReference = codes "uri-reference"
name_of UriTemplate = codes "uri-template"
name_of Uuid = codes "uuid"

-- the format with this name, if there is one
abbrev pub pointer_named : Text → Option Format
pointer_named name =
    if bytes_eq name (codes "json-pointer") then Some JsonPointer
    else if bytes_eq name (codes "relative-json-pointer") then Some RelativeJsonPointer
    else if bytes_eq name (codes "uuid") then Some Uuid
    else None

abbrev pub reference_named : Text → Option Format
reference_named name =
    if bytes_eq name (codes "uri") then Some Uri
    else if bytes_eq name (codes "uri-reference") then Some UriReference
    else if bytes_eq name (codes "uri-template") then Some UriTemplate
    else if bytes_eq name (codes "iri") then Some Iri
    else if bytes_eq name (codes "iri-reference") then Some IriReference
    else pointer_named name

abbrev pub host_named : Text → Option Format
host_named name =
    if bytes_eq name (codes "email") then Some Email
    else if bytes_eq name (codes "idn-email") then Some IdnEmail
    else if bytes_eq name (codes "hostname") then Some Hostname
    else if bytes_eq name (codes "ipv4") then Some Ipv4
    else if bytes_eq name (codes "ipv6") then Some Ipv6
    else reference_named name

abbrev pub named : Text → Option Format
named name =
    if bytes_eq name (codes "date") then Some Date
    else if bytes_eq name (codes "time") then Some Time
    else if bytes_eq name (codes "date-time") then Some DateTime
    else if bytes_eq name (codes "duration") then Some Duration
    else host_named name
