pub mod BecomesLemmas
pub mod ExchangeLemmas
pub mod FaultLemmas
pub mod KeptLemmas
pub mod LinkLemmas
pub mod MomentLemmas
pub mod PieceLemmas
pub mod ScriptLemmas
