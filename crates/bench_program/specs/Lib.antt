pub mod ProgramWords
pub mod ProgramFaults
pub mod ProgramTexts
pub mod ProgramAnswers
pub mod ProgramMeaning
pub mod ProgramViews
pub mod ProgramRuns
