pub mod Reading
pub mod Written
pub mod Printing
pub mod Lacking
