mod Nesting
mod BuildsAgree
mod OneTable
mod FreeCalls
mod GreatestCalls
