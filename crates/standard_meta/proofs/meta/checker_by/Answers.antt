use Rattle.standard_meta.specs.MetaDocuments.{given_of}
use Rattle.std.specs.Prelude.{map}
use Rattle.standard_meta.proofs.Meanings.{means_draft}
use Rattle.standard_meta.proofs.meta.checker_by.Goals as goal

pub returns-in-Some : goal.returns-in-Some
returns-in-Some c =
    let made = c.in_ok-resolver.ensures in
    record {
      means = λ root others. means_draft _ _ _ _ c.in_ok-resolver.resolver _ (given_of c.args.documents.now.root)
          (map given_of c.args.documents.now.others.items) c.in_ok-validator.field-0 _ made.rule made.uri made.document made.others
          made.root_draft made.draft made.drafts made.listed made.custom c.in_ok-matcher.ensures.matcher c.in_ok-validator.ensures.compiled c.in-Some.ensures.is root others;
    }
