mod Lists
mod Keeps
mod Passes
