mod Ranks
mod Heads
mod Turned
