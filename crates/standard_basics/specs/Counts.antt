-- Keywords that count the characters of a text or the members of an object. (Validation 2020-12,
-- 6.3.1, 6.3.2 and 6.5.2)
use Rattle.std.specs.Prelude.{Bool, None, Option, Some, codes, decimal, if◌then◌else◌, length, nat_le, option_map, true, ℕ, ◌++◌, ◌+◌, ◌==◌}
use Rattle.std.specs.Str.{chars}
use Rattle.serde_json.specs.Data.{Members, member, no_members}
use Rattle.serde_json.specs.Find.{as_object, as_str}
use Rattle.theory_definitions.specs.Instance.{Subject, Text, a_name, a_value}
use Rattle.theory_definitions.specs.Meaning.{subject_text}
use Rattle.standard_basics.specs.declared.counts.CountKind.{CountKind}
use Rattle.standard_basics.specs.declared.counts.CountKind.TheVariants.{MaxLength, MinLength, MinProperties}

abbrev pub count_name : CountKind → Text
count_name MinLength = codes "minLength"
count_name MaxLength = codes "maxLength"
count_name MinProperties = codes "minProperties"

-- the text, if the subject is a text or a name
abbrev pub subject_string : Subject → Option Text
subject_string (a_value d) = as_str d
subject_string (a_name k) = Some k

abbrev pub subject_members : Subject → Option Members
subject_members (a_value d) = as_object d
subject_members (a_name k) = None

abbrev pub member_count : Members → ℕ
member_count no_members = 0
member_count (member k d ms) = member_count ms + 1

-- the number of characters, if the subject is a text or a name
abbrev pub text_length : Subject → Option ℕ
text_length s = option_map (λ t. length (chars t)) (subject_string s)

-- the number of members, if the subject is an object
abbrev pub members_count : Subject → Option ℕ
members_count s = option_map member_count (subject_members s)

-- the count, if the keyword applies to the subject
abbrev pub count_of : CountKind → Subject → Option ℕ
count_of MinLength s = text_length s
count_of MaxLength s = text_length s
count_of MinProperties s = members_count s

abbrev pub allows : CountKind → ℕ → ℕ → Bool
allows MinLength n count = nat_le n count
allows MaxLength n count = nat_le count n
allows MinProperties n count = nat_le n count

abbrev pub allows_any : CountKind → ℕ → Option ℕ → Bool
allows_any kind n None = true
allows_any kind n (Some count) = allows kind n count

abbrev pub count_fits : CountKind → ℕ → Subject → Bool
count_fits kind n s = allows_any kind n (count_of kind s)

abbrev pub count_words : CountKind → Text
count_words MinLength = codes " is shorter than "
count_words MaxLength = codes " is longer than "
count_words MinProperties = codes " has less than "

abbrev pub one_counted : CountKind → Text
one_counted MinLength = codes " character"
one_counted MaxLength = codes " character"
one_counted MinProperties = codes " property"

abbrev pub many_counted : CountKind → Text
many_counted MinLength = codes " characters"
many_counted MaxLength = codes " characters"
many_counted MinProperties = codes " properties"

-- the words after the limit
abbrev pub counted : CountKind → ℕ → Text
counted kind n = if n == 1 then one_counted kind else many_counted kind

abbrev pub count_text : CountKind → ℕ → Subject → Text
count_text kind n s = subject_text s ++ count_words kind ++ decimal n ++ counted kind n
