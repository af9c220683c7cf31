pub mod BatchLemmas
