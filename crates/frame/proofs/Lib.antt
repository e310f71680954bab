pub mod FrameLaws
pub mod TurnLaws
pub mod ContentLaws
pub mod ShareLaws
pub mod SpreadLaws
pub mod BlockLaws
pub mod SendLaws
pub mod Example
