use Rattle.schema_files.proofs.Returning as lemmas
use Rattle.schema_files.proofs.file_uris.paths_return.Goals as goal

pub returns : goal.returns
returns c = record { returns = λ path small utf8 rooted. lemmas.returns path small utf8 rooted }
