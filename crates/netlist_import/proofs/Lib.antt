pub mod NetLaws
pub mod EachLaws
pub mod LoopLaws
pub mod CallLaws
pub mod WritableLaws
