mod Ascii
mod Pieces
mod Nothing
mod Named
mod Values
mod Plain
mod Served
