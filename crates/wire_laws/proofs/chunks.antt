mod Fields
mod Lengths
mod Handed
