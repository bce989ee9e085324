mod ErrorLists
mod BuildFaults
mod MeantAnswers
