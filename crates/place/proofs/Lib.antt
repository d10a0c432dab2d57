mod Addresses
mod Pieces
