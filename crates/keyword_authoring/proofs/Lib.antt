pub mod NextQuestions
pub mod EachQuestion
pub mod BorrowedFaults
pub mod MemberNames
pub mod MemberCounts
pub mod AtOnce
pub mod ToldTexts
pub mod AskedAlike
