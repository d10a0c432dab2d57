mod Answering
mod Counting
mod Gating
mod Rounds
mod Working
