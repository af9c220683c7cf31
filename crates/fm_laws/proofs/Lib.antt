mod FaultLemmas
mod FormedLemmas
