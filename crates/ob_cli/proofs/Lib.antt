mod Examples
mod Numbers
mod Reasons
