pub mod SideLemmas
