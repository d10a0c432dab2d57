mod Adding
mod Serving
mod Ticking
