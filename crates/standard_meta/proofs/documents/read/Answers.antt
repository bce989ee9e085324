use Rattle.meta_schemas.specs.MetaTexts.{written}
use Rattle.standard_meta.proofs.TextReads.{text_reads}
use Rattle.standard_meta.proofs.documents.read.Goals as goal

pub returns : goal.returns
returns c = record { read = text_reads (written c.args.schema) c.in_ok-from_str.field-0 c.in_ok-from_str.ensures.ok }
