pub mod FitFalls
