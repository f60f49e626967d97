-- the definitions that the contracts cite
pub mod Answers
pub mod TestScript
pub mod Sequences
pub mod Places
pub mod Recordings
pub mod Ready
pub mod Pages
pub mod Patches
pub mod Changes
pub mod ObjectTalk
